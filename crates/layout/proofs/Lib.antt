pub mod Titles
pub mod Coded
pub mod Fresh
