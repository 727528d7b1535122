-- all that a file breaks by its form
pub mod Whole
pub mod Fault
pub mod Rules
-- at one node
pub mod AtNode
pub mod Families
-- before the package clause
pub mod BuildConstraints
-- forms that are not built yet
pub mod Unbuilt
pub mod BuiltForms
pub mod BuiltOperators
pub mod BuiltTypes
