pub mod ExitLaws
pub mod OneReply
