pub mod ContractLines
pub mod Calls
