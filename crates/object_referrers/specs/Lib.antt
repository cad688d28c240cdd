pub mod Referring
pub mod Places
pub mod Kept
pub mod Gathered
