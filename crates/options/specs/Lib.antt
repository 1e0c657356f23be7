pub mod Agreement
pub mod Listing
pub mod Exchange
pub mod Request
