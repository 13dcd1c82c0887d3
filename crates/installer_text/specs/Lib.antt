pub mod Reports
pub mod Commands
pub mod Answers
