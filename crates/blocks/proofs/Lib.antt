pub mod Parts
pub mod Joined
pub mod Packed
pub mod Images
