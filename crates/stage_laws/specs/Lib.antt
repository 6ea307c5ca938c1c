pub mod Stages
pub mod Casts
pub mod Performances
pub mod Standing
pub mod Known
