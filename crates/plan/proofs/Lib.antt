pub mod OneReply
pub mod Readers
