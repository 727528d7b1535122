pub mod CopyLemmas
pub mod CountLemmas
pub mod FileLemmas
pub mod LawLemmas
pub mod LexicalLemmas
pub mod NumberLemmas
pub mod StartLemmas
pub mod WalkLemmas
