pub mod Integers
pub mod Checked
pub mod Finite
