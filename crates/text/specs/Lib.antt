pub mod Text
pub mod Written
