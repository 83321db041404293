pub mod Middle
pub mod Writing
pub mod Beginning
pub mod Steps
pub mod Showing
pub mod ByRows
