-- what specs and declarations stand for
pub mod Views
-- what inner functions promise each other
pub mod Members
