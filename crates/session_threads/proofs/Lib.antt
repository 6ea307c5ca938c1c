pub mod RenewLemmas
pub mod WheelLemmas
pub mod ServeLemmas
pub mod DiskLemmas
pub mod BoundLemmas
pub mod OutcomeLemmas
pub mod PhaseLemmas
pub mod RunningLemmas
