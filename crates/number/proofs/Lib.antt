pub mod Columns
pub mod Scan
pub mod Form
pub mod Leading
