pub mod Ground
pub mod Ascent
pub mod Stepping
pub mod Finding
pub mod Verdicts
pub mod Judging
pub mod Keeping
