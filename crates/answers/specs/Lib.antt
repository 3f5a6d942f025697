pub mod Table
pub mod Changes
pub mod Ranges
pub mod Reads
pub mod Passing
