pub mod Segments
pub mod Tables
