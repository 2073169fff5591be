pub mod Asking
pub mod ByKind
pub mod Enclosing
pub mod Classes
pub mod Passing
