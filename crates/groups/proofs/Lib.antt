pub mod Held
pub mod Bytes
pub mod Few
pub mod Fitting
pub mod Sheets
