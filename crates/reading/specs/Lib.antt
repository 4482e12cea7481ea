pub mod Reading
pub mod Limits
pub mod Faithful
pub mod Offset
