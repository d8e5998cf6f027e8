pub mod Meaning
pub mod Cuts
