pub mod Form
pub mod Accepting
