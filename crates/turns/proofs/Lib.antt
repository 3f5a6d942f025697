pub mod RunLaws
pub mod ReplyLaws
