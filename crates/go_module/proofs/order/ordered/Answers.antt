use Rattle.std.proofs.Common.{◌≡◌, ℕ, rules}
use Rattle.std.proofs.lemmas.Fn.{always_returns_same}
use Rattle.std.proofs.lemmas.List.Filters.{dedup_is}
use Rattle.std.specs.List.Sorted.{IsSorted}
use Rattle.go_base.specs.declared.rule.Broken.{Broken}
use Rattle.go_module.specs.Order.{rank}
use Rattle.go_module.proofs.OrderLemmas.{compared, sorted_list}
use Rattle.go_module.proofs.order.ordered.Goals as goal

abbrev key : Broken → ℕ × ℕ × ℕ × ℕ
key b = (b.pos.file, b.pos.offset, rank b.rule, b.rule.number)

same_key : (r : ℕ × ℕ × ℕ × ℕ) (b : Broken) → r.0 ≡ b.pos.file → r.1 ≡ b.pos.offset → r.2 ≡ rank b.rule → r.3 ≡ b.rule.number → r ≡ key b
same_key r b file offset family number = λ i. (file i, offset i, family i, number i)

pub returns : goal.returns
returns c =
    let sorted : IsSorted compared c.sort_unstable_by_key.new.self.items =
    c.sort_unstable_by_key.ensures.sorted key (always_returns_same _ (λ a r. r ≡ key a.0.now) _ (λ a r f called. (same_key r a.0.now (search rules) (search rules) (search rules) (search rules), search rules))) in
    let is = dedup_is _ _ _ c.dedup.ensures.filtered in
    rw is (sorted_list c.args.found.items _ c.sort_unstable_by_key.ensures.permutation sorted)
