pub mod Pushed
pub mod Alike
pub mod Again
