pub mod Sizes
pub mod Taken
pub mod Ranges
pub mod Listed
