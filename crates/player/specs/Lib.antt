pub mod Report
pub mod Played
pub mod Reported
pub mod Entries
pub mod Left
