pub mod Sights
pub mod Paints
pub mod Tallies
pub mod Calls
