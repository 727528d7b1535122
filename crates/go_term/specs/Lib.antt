-- what public contracts cite
pub mod Types
pub mod View
pub mod Basics
pub mod Size
pub mod Sizes
pub mod Substitution
pub mod Shapes
