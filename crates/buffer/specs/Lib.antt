pub mod Put
pub mod Append
