pub mod EachLemmas
pub mod LineOrderLemmas
pub mod OneReportLemmas
pub mod OutlineLemmas
