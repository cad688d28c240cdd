pub mod Steps
pub mod Lookups
pub mod Unbroken
pub mod Assembled
pub mod Ranges
pub mod FewFeatures
pub mod Differing
