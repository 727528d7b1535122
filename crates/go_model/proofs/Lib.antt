pub mod OutcomeExactLemmas
pub mod FlatLemmas
pub mod OutcomeLemmas
pub mod ThereLemmas
pub mod WalkedLemmas
