-- what is known of identifiers, expressions and declarations
pub mod Naming
pub mod Records
pub mod Headers
pub mod HeadersView
-- what is asked of a node, and what it comes to
pub mod Quests
pub mod Judged
pub mod Operands
pub mod Kinds
pub mod Limits
pub mod View
pub mod Exactly
-- questions about types
pub mod Types
-- how tables by numbers are hashed
pub mod NumberHasher
