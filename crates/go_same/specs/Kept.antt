-- Pairs of interfaces that were found identical: what holds of each that is kept.
use Rattle.std.specs.Prelude.{◌≡◌, true}
use Rattle.std.specs.List.{AllByRecursion}
use Rattle.go_term.specs.Types.{TypeData}
use Rattle.go_term.specs.declared.term.Term.{Term}
use Rattle.go_judge.specs.Headers.{Headers}
use Rattle.go_judge.specs.Quests.{Decided, run}
use Rattle.go_same.specs.Bounded as bounded
use Rattle.go_same.specs.Layers.{IsOwnPair, pair_view}
use Rattle.go_same.specs.declared.kept.Kept.{Kept}
use Rattle.go_same.specs.declared.kept.KeptPair.{KeptPair}

module _ (known : Headers) (own : Term → Type 0) (tree : Term → TypeData) where
  -- its layers have types of the judge's own, and the answer to its question is Yes over the headers that are known
  pub record IsKept (p : KeptPair) : Type 0 where
    pub types : IsOwnPair own (p.x, p.y)
    pub told : run known (bounded.same_interfaces p.bounds (pair_view tree (p.x, p.y))) ≡ Decided true

  abbrev pub AreKept : Kept → Type 0
  AreKept kept = AllByRecursion IsKept kept.pairs.items
