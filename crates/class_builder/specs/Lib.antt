pub mod Models
pub mod Tables
pub mod Building
