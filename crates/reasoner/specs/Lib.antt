pub mod Reasons
pub mod Ages
