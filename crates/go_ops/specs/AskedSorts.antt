-- Sorts of operands, by answers of a judge.
-- Says what the answers stand for, and what is asked of a sort by what the underlying type comes to (own).
use Rattle.std.specs.Prelude.{Option}
use Rattle.go_term.specs.Types.{TypeData}
use Rattle.go_judge.specs.Quests.{Asked, Decided, Lacks}
use Rattle.go_constructs.specs.Operators.Sorts.{sort_found}
use Rattle.go_ops.specs.declared.representability.Represents.{Represents}
use Rattle.go_ops.specs.declared.representability.Represents.TheVariants as R
use Rattle.go_constructs.specs.declared.fit.Fit.{Fit}
use Rattle.go_constructs.specs.declared.sort.Sort.{Sort}
use Rattle.go_ops.specs.declared.sorts.AskedSort.{AskedSort}
use Rattle.go_ops.specs.declared.sorts.AskedSort.TheVariants as O
use Rattle.go_ops.specs.declared.sorts.AskedSorts.{AskedSorts}
use Rattle.go_ops.specs.declared.sorts.AskedSorts.TheVariants as P

abbrev pub sort_as : AskedSort → Asked Sort
sort_as (O.Is s) = Decided s
sort_as (O.Unknown d) = Lacks d.0

abbrev pub sorts_as : AskedSorts → Asked (Sort × Sort)
sorts_as (P.Are s t) = Decided (s, t)
sorts_as (P.Unknown d) = Lacks d.0

abbrev pub represents_as : Represents → Asked Fit
represents_as (R.Is fit) = Decided fit
represents_as (R.Unknown d) = Lacks d.0

-- what follows of an answer
abbrev pub asked_map : {A B : Type 0} → (A → B) → Asked A → Asked B
asked_map f (Decided a) = Decided (f a)
asked_map f (Lacks d) = Lacks d

-- the sort, by what the underlying type comes to
abbrev pub sort_asked : Asked (Option TypeData) → Asked Sort
sort_asked asked = asked_map sort_found asked
