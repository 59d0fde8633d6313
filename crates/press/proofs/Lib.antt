pub mod Rows
pub mod Press
pub mod Preview
