pub mod Words
pub mod Names
pub mod Tests
pub mod Places
pub mod Starts
pub mod Joining
pub mod Going
