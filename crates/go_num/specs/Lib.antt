pub mod Arithmetic
pub mod Bits
pub mod Comparisons
pub mod Ranges
pub mod Shifts
pub mod Strings
pub mod Text
pub mod TextOfValues
