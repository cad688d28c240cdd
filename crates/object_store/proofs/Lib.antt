pub mod Listed
pub mod Grouped
pub mod Tied
pub mod Stamped
pub mod Links
pub mod Named
pub mod Classed
mod Marked
pub mod TextKeys
pub mod Changed
pub mod Walked
pub mod Tables
pub mod Carried
mod Cells
mod Pages
mod PairRows
mod Rows
