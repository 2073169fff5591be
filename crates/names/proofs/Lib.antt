mod Probing
pub mod Filling
