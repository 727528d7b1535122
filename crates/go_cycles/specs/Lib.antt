-- what public contracts cite
pub mod Leading
pub mod Shapes
-- what inner functions promise each other
pub mod Places
