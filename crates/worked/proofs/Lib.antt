pub mod Decoded
pub mod Formulas
pub mod Listed
pub mod Safe
pub mod Valid
pub mod Run
