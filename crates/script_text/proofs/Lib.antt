pub mod PrintingLemmas
