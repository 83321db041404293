pub mod Blending
pub mod Packing
