pub mod Hulls
pub mod Pairs
pub mod Singles
pub mod Going
