pub mod Reports
pub mod Exits
pub mod Permits
