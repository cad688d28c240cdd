pub mod Exact
pub mod Rows
pub mod Texts
pub mod CharacterLists
pub mod Numerals
pub mod Finding
pub mod WellMade
pub mod Elements
