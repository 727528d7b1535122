-- what is loaded or refused
pub mod Loading
pub mod Sources
pub mod OneLoad
pub mod FileNumbers
-- what inner functions promise
pub mod Texts
pub mod Packages
