pub mod Scopes
pub mod Shell
pub mod Seen
pub mod Calls
pub mod Topics
pub mod Commands
pub mod Checks
