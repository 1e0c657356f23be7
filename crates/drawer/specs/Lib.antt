pub mod Keeping
pub mod Meaning
