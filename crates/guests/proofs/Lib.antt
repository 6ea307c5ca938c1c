mod EchoLemmas
mod FilterLemmas
mod HearingLemmas
mod NumberLemmas
