pub mod Picking
pub mod Lowering
pub mod Seeding
pub mod Firsts
pub mod Meaning
