pub mod Outputs
pub mod Inside
