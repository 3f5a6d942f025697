pub mod Groups
pub mod Capped
pub mod Exact
pub mod Viable
