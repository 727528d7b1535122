-- Marks of import specs.
use Rattle.std.proofs.Math.Bool.{and-true, or-false}

pub ruleset mark_lemmas = (and-true, or-false)
