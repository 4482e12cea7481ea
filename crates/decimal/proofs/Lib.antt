pub mod ReadLaws
pub mod Laws
pub mod RoundTrip
pub mod Clean
