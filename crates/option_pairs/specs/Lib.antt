pub mod PerOption
pub mod Number
pub mod Pairs
pub mod Splits
pub mod Values
pub mod Scan
