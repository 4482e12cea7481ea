mod Filling
mod Growing
pub mod Kept
mod Reading
