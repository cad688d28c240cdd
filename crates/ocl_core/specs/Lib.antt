pub mod Kinds
pub mod Trees
pub mod Programs
