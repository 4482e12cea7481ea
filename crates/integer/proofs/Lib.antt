pub mod BitLaws
pub mod BoolLaws
pub mod PackLaws
