pub mod Reached
pub mod Lines
