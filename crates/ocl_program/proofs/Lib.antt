pub mod Contracted
