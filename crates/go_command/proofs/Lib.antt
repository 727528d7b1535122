pub mod OneRunLemmas
pub mod RunLemmas
