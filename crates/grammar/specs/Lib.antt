pub mod Grammar
pub mod Spelling
pub mod Text
pub mod Leads
pub mod Table
pub mod Scan
