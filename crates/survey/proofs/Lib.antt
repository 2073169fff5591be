pub mod Verdicts
pub mod Lines
pub mod Records
pub mod Whole
