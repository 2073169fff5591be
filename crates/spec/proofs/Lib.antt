pub mod Table
pub mod Also
pub mod Starred
pub mod Ideas
pub mod Changes
