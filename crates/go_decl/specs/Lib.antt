-- what public contracts cite
pub mod Broken
pub mod Parts
pub mod Rounds
-- what inner functions promise each other
pub mod Places
pub mod Waits
