mod DepthLemmas
mod JoinLemmas
mod PortLemmas
mod SweepLemmas
mod WiringLemmas
