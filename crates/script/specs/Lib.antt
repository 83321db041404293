pub mod Parting
pub mod Lines
pub mod Tokens
pub mod Numbers
pub mod Verbs
pub mod Records
pub mod Openings
