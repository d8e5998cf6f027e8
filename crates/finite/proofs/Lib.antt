pub mod Decided
pub mod Tables
pub mod Asked
pub mod Made
