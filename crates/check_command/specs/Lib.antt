pub mod Scripts
pub mod Cases
pub mod Lines
pub mod Answers
pub mod Files
pub mod Verdicts
