pub mod Scope
pub mod DepthLaws
pub mod Ordered
pub mod DepthTable
mod Above
mod OwnerLaws
