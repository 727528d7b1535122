use Rattle.std.proofs.Common.{◌≡◌, rules, ap, ◌∙◌}
use Rattle.std.proofs.lemmas.Fn.{always_returns_same}
use Rattle.std.specs.Ordering.{is_lt}
use Rattle.go_same.specs.MethodOrder.{method_cmp, stands_before}
use Rattle.go_same.specs.Sets.{method_view}
use Rattle.go_same.proofs.MethodLemmas.{compared_before, sorted_views, stands_before_ranks}
use Rattle.go_same.proofs.methods.sort_methods.Goals as goal

pub returns-clause-sorted : goal.returns-clause-sorted
returns-clause-sorted c =
    c.in_ok-sort_by.ensures.sorted stands_before stands_before_ranks
    (always_returns_same _ (λ a r. is_lt r ≡ stands_before a.0.now a.1.0.now) _ (λ a r f called.
    let is : r ≡ method_cmp a.0.now a.1.0.now = search rules in
    (ap is_lt is ∙ compared_before a.0.now a.1.0.now, search rules)))

pub returns-clause-by_name : goal.returns-clause-by_name
returns-clause-by_name c tree =
    sorted_views (method_view tree) c.args.methods.now.items c.sort_by.new.self.items
    (returns-clause-sorted c)
    (c.sort_by.ensures.stable stands_before stands_before_ranks
    (always_returns_same _ (λ a r. is_lt r ≡ stands_before a.0.now a.1.0.now) _ (λ a r f called.
    let is : r ≡ method_cmp a.0.now a.1.0.now = search rules in
    (ap is_lt is ∙ compared_before a.0.now a.1.0.now, search rules))))
