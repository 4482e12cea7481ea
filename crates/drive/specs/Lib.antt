pub mod Ramp
pub mod Drive
pub mod Tach
