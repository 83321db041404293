pub mod States
pub mod Checks
