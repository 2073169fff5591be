pub mod Exchange
pub mod Touching
pub mod Verdicts
pub mod Editing
pub mod Adding
pub mod Replacing
