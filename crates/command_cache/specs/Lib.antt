pub mod Meanings
pub mod Prepared
