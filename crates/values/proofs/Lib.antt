pub mod RoundTrip
pub mod Tags
