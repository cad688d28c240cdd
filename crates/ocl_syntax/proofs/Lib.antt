pub mod Fuel
mod Passing
mod Rows
mod HeldMade
mod HeldForms
mod TokenPlaces
pub mod PlacesStand
mod ReadTrees
mod ReadAlone
mod ReadForms
mod ReadPlaces
