pub mod Waiting
pub mod Meaning
