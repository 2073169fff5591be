pub mod Row
pub mod Demand3
pub mod Undo
