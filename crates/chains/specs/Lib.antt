pub mod Digits
pub mod Ways
pub mod Kinds
pub mod Rotation
pub mod Picked
pub mod Met
