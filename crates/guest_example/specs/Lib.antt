pub mod OneOfs
pub mod Tremolos
