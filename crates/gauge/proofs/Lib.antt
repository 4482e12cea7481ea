pub mod DivisionLaws
pub mod Laws
