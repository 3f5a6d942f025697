pub mod Children
pub mod Ending
