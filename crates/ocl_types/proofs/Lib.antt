pub mod Levels
pub mod Leaving
mod Depth
