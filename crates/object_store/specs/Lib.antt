pub mod Ends
pub mod Indexes
pub mod Held
pub mod Cells
pub mod Pages
pub mod Pairs
