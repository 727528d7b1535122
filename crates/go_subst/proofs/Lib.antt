pub mod ChainLemmas
pub mod ParamLemmas
pub mod PathLemmas
pub mod PlainLemmas
pub mod SubstLemmas
pub mod ViewLemmas
