pub mod Indexes
pub mod Present
pub mod Standing
