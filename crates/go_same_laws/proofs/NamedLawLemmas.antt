-- What questions about types that name good objects only lack, and find.
use Rattle.std.proofs.Common.{ℕ}
use Rattle.go_judge.specs.Headers.{Headers}
use Rattle.go_judge.specs.Records.{HeaderData}
use Rattle.go_judge.specs.Types.TypeIdentity.{identical}
use Rattle.go_judge.specs.Types.UnderlyingType.{Reaches, under}
use Rattle.go_judge.specs.Quests.{Quest, then_ask}
use Rattle.go_constructs.specs.Operators.Matching.{match_by}
use Rattle.go_constructs.specs.Operators.Representable.{representable}
use Rattle.go_constructs.specs.Operators.Sorts.{by_sort, by_sorts, sort_of, sorts_of}
use Rattle.go_same_laws.specs.Named.{AreGood, AsksOnly, LacksGood, LacksNamed, ReachesGood}
use Rattle.go_same_laws.proofs.NamedLemmas.{AnyOf, comes_right, lacks_good, under_asks}
use Rattle.go_same_laws.proofs.NamedSameLemmas.{identical_asks}
use Rattle.go_same_laws.proofs.NamedSortLemmas.{by_sort_asks, by_sorts_asks, match_asks, representable_asks, sort_asks}

module _ (good : ℕ → Type 0) (headers : Headers) (known : AreGood good headers) where
  lacks : {A : Type 0} (q : Quest HeaderData A) → AsksOnly good AnyOf q → LacksGood good headers q
  lacks q asks = lacks_good good headers known AnyOf q asks

  pub lacks_named : LacksNamed good headers
  lacks_named = record {
    of_under = λ t names. lacks_good good headers known (ReachesGood good) (under t) (under_asks good t names);
    underlying = λ t u names e. comes_right good headers known (ReachesGood good) (under t) (under_asks good t names) (Reaches u) e;
    of_sort = λ t names. lacks (sort_of t) (sort_asks good t names);
    by_one = λ x answer first. lacks (by_sort x answer) (by_sort_asks good x answer first);
    by_two = λ x y answer first second. lacks (by_sorts x y answer) (by_sorts_asks good x y answer first second);
    of_representable = λ v t names. lacks (representable v t) (representable_asks good v t names);
    of_identical = λ a b first second. lacks (identical a b) (identical_asks good a b first second);
    of_matched = λ x y first second. (lacks (then_ask (sorts_of x y) (λ pair. match_by x y pair.0 pair.1)) (match_asks good x y first second), tt);
  }
