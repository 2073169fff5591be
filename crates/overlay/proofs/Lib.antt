pub mod Unions
pub mod Memos
pub mod Recursion
pub mod Types
