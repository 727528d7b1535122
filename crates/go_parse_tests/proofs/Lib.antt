pub mod CountLemmas
pub mod HandedBlockLemmas
