pub mod Stamping
pub mod Devices
