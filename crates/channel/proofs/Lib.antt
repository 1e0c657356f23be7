pub mod Turns
pub mod Fronts
pub mod Members
