pub mod Descending
pub mod Composing
pub mod Brushing
pub mod Sighting
pub mod Keeping
pub mod Showing
