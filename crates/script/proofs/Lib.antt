pub mod Splitting
pub mod Numbering
