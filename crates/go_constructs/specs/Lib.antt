-- expressions and types, a construct each, in the order of the Go specification
pub mod Array
pub mod Slice
pub mod Struct
pub mod Pointer
pub mod Function
pub mod Interface
pub mod MapType
pub mod Channel
pub mod Literal
pub mod Name
pub mod Selector
pub mod Parentheses
pub mod Operators
-- what they share
pub mod Meaning
pub mod Integers
pub mod Signatures
