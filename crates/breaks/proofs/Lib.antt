pub mod LateRules
pub mod Banning
pub mod Statics
pub mod Members
pub mod Places
pub mod Fields
pub mod Locals
pub mod Sites
