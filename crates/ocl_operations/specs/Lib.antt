pub mod Operators
pub mod Sources
pub mod Ranges
pub mod Navigation
pub mod Types
pub mod Iterators
