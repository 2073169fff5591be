pub mod Naming
pub mod Withdrawing
