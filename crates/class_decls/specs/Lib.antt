pub mod Texts
pub mod Entries
pub mod Names
pub mod References
pub mod Limits
pub mod Different
