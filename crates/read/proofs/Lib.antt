mod Handed
mod Stages
pub mod Foretold
mod Made
