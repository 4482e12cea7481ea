pub mod Readings
pub mod Left
