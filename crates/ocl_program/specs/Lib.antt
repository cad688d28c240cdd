pub mod ContractRows
pub mod Expressions
pub mod Bodies
pub mod Programs
pub mod Indexed
