pub mod Values
pub mod Tree
pub mod Evaluate
pub mod WellDefined
pub mod AfterValues
pub mod Mentions
pub mod Identifiers
pub mod Formula
