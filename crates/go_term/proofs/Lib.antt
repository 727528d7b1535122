pub mod SizeLemmas
pub mod SubstLemmas
