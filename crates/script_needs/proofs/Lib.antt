mod OpenLemmas
mod LineLemmas
mod PeriodLemmas
mod CycleLemmas
mod SampleLemmas
