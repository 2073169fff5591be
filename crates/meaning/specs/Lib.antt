pub mod Canonical
pub mod Meaning
pub mod Claims
pub mod Examples
