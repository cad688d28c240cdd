pub mod Named
pub mod Sizes
pub mod Steps
pub mod FewParameters
pub mod Kept
pub mod Answering
