pub mod Verdicts
pub mod Broken
pub mod Counts
pub mod Noting
