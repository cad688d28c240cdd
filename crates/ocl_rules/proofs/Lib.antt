pub mod TypeCases
