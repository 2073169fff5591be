pub mod Rows
pub mod Gathering
pub mod Records
pub mod Writing
pub mod Copying
pub mod Walking
pub mod Answered
pub mod Turned
