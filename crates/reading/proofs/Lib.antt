pub mod Laws
pub mod FaithfulLaws
pub mod OffsetLaws
