pub mod Kept
pub mod Moves
pub mod Points
pub mod Timelines
pub mod Steps
