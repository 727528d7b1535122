-- modules: their packages, files, imports and import order
pub mod Modules
-- the names of a package
pub mod Names
pub mod Scopes
-- broken rules: their lists in order, and their places in a report
pub mod Order
pub mod Broken
pub mod Rules
pub mod Places
-- parts of nodes
pub mod NodeParts
-- what these rest on, for those who cite them
pub use Rattle.go_graph.specs.Graph
pub use Rattle.go_text.specs.Files
pub use Rattle.go_text.specs.Copies
pub use Rattle.go_text.specs.Numbers
pub use Rattle.indexmap.specs.IndexMap
