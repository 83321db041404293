pub mod Pages
pub mod Sheets
pub mod Owed
