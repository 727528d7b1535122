-- the report of a module
pub mod Phases
pub mod Report
pub mod PackageLines
pub mod Finals
pub mod Members
pub mod LineOrder
pub mod Outline
pub mod Status
pub mod Text
pub mod Laws
