pub mod Bound
pub mod Named
pub mod Called
pub mod Unnamed
pub mod Acts
pub mod Stored
pub mod Nesting
