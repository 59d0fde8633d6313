pub mod Row
pub mod Spelled
pub mod Printed
pub mod Mentioned
pub mod Replies
pub mod Parse
pub mod Answers
