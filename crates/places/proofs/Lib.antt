pub mod FreshLaws
pub mod StatusLaws
