pub mod Listed
pub mod Sizes
pub mod Smaller
pub mod Well
