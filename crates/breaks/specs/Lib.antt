pub mod Bans
pub mod Breaking
pub mod Beyond
pub mod Steps
