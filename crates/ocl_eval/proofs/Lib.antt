mod Fronts
mod Pairs
mod Depth
mod Literals
mod Ready
pub mod Congruence
pub mod Local
pub mod More
pub mod Spending
