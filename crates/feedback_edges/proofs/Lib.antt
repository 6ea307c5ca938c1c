pub mod NameLemmas
mod RemarkSteps
mod SearchLemmas
pub mod TableLemmas
