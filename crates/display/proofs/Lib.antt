pub mod LineLaws
pub mod FloorLaws
pub mod DisplaysLaws
pub mod Laws
pub mod LengthLaws
