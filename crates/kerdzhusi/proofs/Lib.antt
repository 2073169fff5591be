pub mod Codes
pub mod Bounds
