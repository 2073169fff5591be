pub mod Counting
pub mod Demand3
pub mod Undo
pub mod Filling
