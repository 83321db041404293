pub mod Next
pub mod Settling
pub mod Meeting
pub mod Same
