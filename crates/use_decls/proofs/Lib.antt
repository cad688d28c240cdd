mod Stepwise
mod Counted
mod Nested
