pub mod Sound
pub mod Listed
pub mod Tops
