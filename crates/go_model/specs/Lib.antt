-- what is known of identifiers, what nodes come to, and what types must be
pub mod Naming
pub mod Outcomes
pub mod Obligations
-- what these rest on
pub use Rattle.go_module.specs.Modules
pub use Rattle.go_module.specs.Names
pub use Rattle.go_module.specs.Scopes
pub use Rattle.go_module.specs.Order
pub use Rattle.go_module.specs.Broken
pub use Rattle.go_module.specs.Places
