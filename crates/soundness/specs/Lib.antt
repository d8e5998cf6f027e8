pub mod Media
pub mod Faults
pub mod Verdict
pub mod Sound
