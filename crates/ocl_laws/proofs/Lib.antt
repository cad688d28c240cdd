pub mod Once
pub mod Comes
pub mod Rules
pub mod Walk
pub mod Refusals
pub mod Standing
pub mod PlacesStand
pub mod Types
pub mod Nodes
pub mod InRange
pub mod Now
mod InTexts
