pub mod AscendingLemmas
pub mod BrokenListLemmas
pub mod MemberLemmas
pub mod NameLemmas
pub mod OrderLemmas
pub mod PartLemmas
pub mod TableLemmas
pub mod UniverseLemmas
