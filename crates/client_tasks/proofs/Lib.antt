mod FillLemmas
mod ListLemmas
pub mod PlanLemmas
mod RackLemmas
