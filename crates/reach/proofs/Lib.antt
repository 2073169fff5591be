pub mod Depending
pub mod Library
pub mod Encloser
pub mod Scanning
pub mod Wanting
