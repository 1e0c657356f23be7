pub mod Counts
pub mod HostDraft
pub mod Parts
pub mod Pieces
pub mod Positions
