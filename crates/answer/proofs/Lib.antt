pub mod Answer
pub mod Mentions
pub mod Faults
pub mod Examples
