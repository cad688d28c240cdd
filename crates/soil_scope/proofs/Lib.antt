pub mod Firsts
pub mod Stepwise
pub mod Slots
