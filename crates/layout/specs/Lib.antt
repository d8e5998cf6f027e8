pub mod Shapes
pub mod Names
pub mod Inodes
pub mod Entries
pub mod Heads
pub mod Fresh
pub mod Refusals
pub mod Regions
