pub mod Sets
pub mod Fields
pub mod Base
pub mod Heads
