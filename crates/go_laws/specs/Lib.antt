pub mod Complete
pub mod NodeNumbers
pub mod BuiltTrees
