mod HexLemmas
pub mod WordLemmas
