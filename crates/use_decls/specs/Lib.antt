pub mod Names
pub mod Types
pub mod Classes
pub mod Assocs
pub mod Conds
pub mod Counts
pub mod Declarations
