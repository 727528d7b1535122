-- what public contracts cite, and what inner functions promise each other
pub mod View
pub mod Packages
pub mod Lines
