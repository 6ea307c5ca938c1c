mod ListLemmas
mod BoundLemmas
mod MixLemmas
mod PeriodLemmas
