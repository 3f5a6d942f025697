pub mod NextLaws
pub mod RunLaws
pub mod Replies
