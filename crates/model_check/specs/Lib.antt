pub mod Faults
pub mod Seen
pub mod Few
pub mod Rules
pub mod Adding
pub mod Walk
pub mod Programs
