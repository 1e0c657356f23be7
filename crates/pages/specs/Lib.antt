pub mod Layout
pub mod Changes
pub mod Rules
pub mod Indexed
