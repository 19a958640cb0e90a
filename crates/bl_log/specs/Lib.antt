pub mod Log
pub mod Layout
pub mod Reading
pub mod Answers
pub mod Judge
pub mod Written
