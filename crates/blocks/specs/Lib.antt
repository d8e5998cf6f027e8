pub mod Bytes
pub mod Bits
pub mod Images
pub mod Maps
