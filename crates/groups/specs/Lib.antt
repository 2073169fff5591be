pub mod Groups
pub mod Sheets
