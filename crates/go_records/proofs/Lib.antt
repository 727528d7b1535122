pub mod FieldLemmas
pub mod NameLemmas
pub mod TextLemmas
pub mod TypeLemmas
pub mod VerdictLemmas
