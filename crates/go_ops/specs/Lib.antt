-- what inner functions promise each other
pub mod Refusals
pub mod PointerTypes
pub mod Sources
pub mod Limited
pub mod Shifted
pub mod Signed
pub mod AskedSorts
pub mod MatchingParts
pub mod ComparisonStages
pub mod Stages
