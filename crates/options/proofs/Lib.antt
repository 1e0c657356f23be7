pub mod Settling
pub mod Digits
pub mod Encoding
pub mod Listed
pub mod Exchanging
