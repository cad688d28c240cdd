pub mod Acts
pub mod Progress
pub mod Kept
pub mod Creating
pub mod Storing
pub mod Joining
pub mod Destroying
pub mod Adding
