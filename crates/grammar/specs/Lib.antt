pub mod Grammar
pub mod Modes
pub mod Meaning
pub mod Parts
