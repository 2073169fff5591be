pub mod NameBytes
pub mod ClassText
pub mod Answered
