pub mod BuildConstraintLemmas
pub mod FieldLemmas
pub mod KindLemmas
pub mod StatementLemmas
pub mod UnbuiltLemmas
pub mod WholeLemmas
