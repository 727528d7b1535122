pub mod PlaceLemmas
pub mod LinesLemmas
pub mod TreeLemmas
