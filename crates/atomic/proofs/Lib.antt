pub mod ChildLaws
pub mod RuleLaws
pub mod OneReply
