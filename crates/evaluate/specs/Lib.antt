pub mod Binary
pub mod Condition
pub mod Pending
pub mod Leaves
