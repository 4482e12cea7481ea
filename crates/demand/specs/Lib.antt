pub mod Demand
pub mod Signed
