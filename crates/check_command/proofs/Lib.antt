mod OpenedLemmas
mod CountLemmas
mod ScriptLemmas
mod CaseLemmas
mod AnswerLemmas
