pub mod Reasoning
pub mod Aging
