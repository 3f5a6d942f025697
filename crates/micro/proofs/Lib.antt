pub mod WordLaws
pub mod StepLaws
