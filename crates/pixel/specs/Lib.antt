pub mod Rounding
pub mod Channel
pub mod Index
pub mod Premultiplied
