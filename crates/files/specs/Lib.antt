-- What the checks of files say on the way.
pub mod Content
