pub mod Codec
pub mod Parts
pub mod Laws
