-- The rules on the form of a file at one node, a family in each file.
pub mod Parameters
pub mod Declarations
pub mod Guards
pub mod Statements
pub mod SwitchStatements
-- parts of nodes
pub mod StatementParts
pub mod Nodes
