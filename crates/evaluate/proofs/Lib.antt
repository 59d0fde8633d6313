pub mod Nodes
pub mod Numbered
pub mod Leaves
