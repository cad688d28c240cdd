pub mod Counts
pub mod ValueTexts
pub mod TypeTexts
pub mod Classes
pub mod Models
pub mod States
pub mod Variables
