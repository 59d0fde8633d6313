pub mod Decoded
pub mod Tags
pub mod Sorts
pub mod Sight
pub mod Rules
pub mod Offence
pub mod Refusal
pub mod Verdict
