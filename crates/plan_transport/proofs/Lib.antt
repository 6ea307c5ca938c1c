mod MasterLemmas
mod NodeLemmas
mod RowLemmas
mod ScriptLemmas
