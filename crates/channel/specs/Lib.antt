pub mod Packet
pub mod Meaning
pub mod Tallies
pub mod Sent
