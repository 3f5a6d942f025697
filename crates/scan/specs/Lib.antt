pub mod Runs
pub mod Reply
