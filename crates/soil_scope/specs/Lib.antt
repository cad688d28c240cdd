pub mod Shells
pub mod Slots
pub mod Variables
pub mod Scenes
pub mod Expressions
pub mod Arguments
pub mod Calls
