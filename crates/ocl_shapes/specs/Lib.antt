pub mod Combining
pub mod Shapes
pub mod Sources
pub mod Extents
pub mod Members
pub mod Named
pub mod Arrows
