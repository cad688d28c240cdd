pub mod Causes
pub mod Shelves
pub mod Reading
pub mod Held
pub mod Real
