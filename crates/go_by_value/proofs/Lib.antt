pub mod HeldLemmas
pub mod HoldLemmas
