pub mod Characters
pub mod Glyphs
pub mod Figures
pub mod Owed
