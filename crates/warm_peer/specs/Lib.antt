pub mod State
pub mod Answers
pub mod Since
pub mod Chunks
pub mod Round
