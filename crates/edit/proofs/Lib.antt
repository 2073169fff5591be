pub mod Copying
pub mod Splicing
