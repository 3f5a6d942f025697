mod Rest
mod Alike
mod Groups
mod GroupsHold
mod CappedLaws
mod DigitLaws
mod DecimalLaws
mod ClassLaws
mod SignedLaws
mod Division
mod PlaceLaws
mod ExactLaws
mod RealLaws
mod BlankLaws
mod RunLaws
mod WordTable
mod ViableLaws
pub mod Longest
