pub mod Words
pub mod Trace
pub mod Whole
