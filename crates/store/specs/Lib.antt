pub mod Meaning
pub mod Standing
pub mod Laying
pub mod Faults
pub mod Memory
pub mod Drafts
pub mod Entries
