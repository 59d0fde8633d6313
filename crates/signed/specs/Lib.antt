pub mod Found
pub mod Signed
