-- Tables over all productions, each proved to be right: no reader of the grammar needs them.
pub mod TokenKinds
pub mod TokenLists
pub mod First
pub mod Follow
pub mod Prediction
pub mod Completion
pub mod Brief
pub mod Rank
pub mod Brackets
