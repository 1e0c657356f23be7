pub mod Heads
pub mod Scanning
pub mod Going
pub mod Found
pub mod AnyNamed
