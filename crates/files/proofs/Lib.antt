-- What the readers, the check of a plan file and the writers rest on beside their rows.
pub mod Checked
pub mod Reading
pub mod Refusing
pub mod Saved
