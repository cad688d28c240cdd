pub mod Overlays
pub mod Frames
pub mod Leading
pub mod Noting
