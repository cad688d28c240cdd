pub mod Back
pub mod Agreeing
pub mod Made
pub mod Left
pub mod Adding
pub mod Unseen
