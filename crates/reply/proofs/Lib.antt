pub mod Answers
pub mod Members
pub mod Output
pub mod Parse
pub mod Printed
pub mod ReadBack
pub mod Mentioned
pub mod Writable
