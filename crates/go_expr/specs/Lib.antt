-- what public contracts cite
pub mod Outcomes
pub mod Walker
pub mod Read
-- what inner functions promise each other
pub mod Given
pub mod Operator
pub mod Elements
pub mod TypeLiteral
