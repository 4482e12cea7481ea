pub mod WordLaws
pub mod Laws
pub mod LengthLaws
pub mod ExplainsLaws
