-- What the writer of a text asks for.
pub mod Room
