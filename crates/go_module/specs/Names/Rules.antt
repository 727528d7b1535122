-- The rules on the names of a package.
pub mod BlockRules
pub mod ImportRules
pub mod OccurrenceRules
pub mod MemberRules
pub mod BrokenNames
