pub mod Lines
pub mod Displayed
pub mod Worked
pub mod Displays
