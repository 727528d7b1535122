-- Modules: the files that are read, their heads, packages and import order.
pub mod Texts
pub mod PathParts
pub mod Paths
pub mod Heads
pub mod Packages
pub mod BrokenImports
pub mod Module
pub mod ModuleLaws
