-- what public contracts cite, and what inner functions promise each other
pub mod Ends
pub mod Wants
pub mod Interfaces
