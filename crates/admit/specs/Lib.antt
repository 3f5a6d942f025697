pub mod Depth
pub mod Owners
pub mod Refusals
