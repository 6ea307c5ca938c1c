mod ByteLemmas
mod ClampLemmas
mod KernelLemmas
mod NarrowLemmas
mod ScalingLemmas
mod SpreadLemmas
