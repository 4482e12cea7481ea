pub mod Rewritten
pub mod Wrong
pub mod Handed
