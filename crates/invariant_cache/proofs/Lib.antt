pub mod Navigations
pub mod Recounted
pub mod Modelled
pub mod Followed
pub mod Listed
pub mod Answered
pub mod Entries
pub mod Judgements
