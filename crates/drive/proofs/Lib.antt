pub mod RampLaws
