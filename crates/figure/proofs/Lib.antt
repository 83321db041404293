pub mod Digits
pub mod Changes
