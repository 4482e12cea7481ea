pub mod Image
pub mod Figures
