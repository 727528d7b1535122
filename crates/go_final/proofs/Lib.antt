pub mod EndLemmas
pub mod InterfaceLemmas
pub mod WantLemmas
