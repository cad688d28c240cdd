pub mod Elements
pub mod Leaving
pub mod Steps
pub mod Assigned
