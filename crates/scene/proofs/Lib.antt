pub mod Heights
pub mod Turns
