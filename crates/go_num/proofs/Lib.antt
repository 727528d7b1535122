pub mod BitLemmas
pub mod Laws
pub mod LimitLemmas
pub mod ShiftLemmas
pub mod WordLemmas
