pub mod Words
pub mod Explained
pub mod Explains
