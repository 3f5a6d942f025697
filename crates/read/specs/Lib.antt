pub mod Reply
pub mod Limits
pub mod Survey
