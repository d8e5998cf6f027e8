pub mod Finite
pub mod Tests
