pub mod Counting
pub mod Rewriting
pub mod Clearing
