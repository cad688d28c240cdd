mod Moved
pub mod Stepped
pub mod Whole
