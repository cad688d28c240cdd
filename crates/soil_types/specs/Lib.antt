pub mod Aims
pub mod ObjectForms
pub mod Assignments
pub mod Statements
pub mod Walk
pub mod Parts
