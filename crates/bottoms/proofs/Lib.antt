pub mod Found
pub mod Landing
pub mod Picks
