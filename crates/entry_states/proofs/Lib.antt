pub mod Cells
pub mod Untouched
pub mod Lays
mod Held
pub mod Keeps
mod InOrder
mod Tops
pub mod Led
pub mod Noted
