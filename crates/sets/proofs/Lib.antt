pub mod Digits
pub mod Set
