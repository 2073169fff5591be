pub mod Model
pub mod Judged
pub mod Demand3
pub mod Undo
pub mod InOrder
