-- What types must be, over the headers that are known at the end; a header that is lacking breaks nothing.
pub mod Embedding
pub mod Embedded
pub mod Constraints
pub mod Methods
pub mod Obliged
