pub mod KnownLemmas
mod EnoughLemmas
pub mod SeatLemmas
mod SeatsLemmas
