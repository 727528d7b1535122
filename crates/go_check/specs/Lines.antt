-- The lines of a package, and the places of what it breaks.
pub mod Found
pub mod Finals
pub mod Ordered
pub mod Sources
