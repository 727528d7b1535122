use Rattle.std.proofs.Common.{◌≡◌, ℕ, Bool, rules, ap, sym}
use Rattle.std.proofs.lemmas.Fn.{always_returns_same}
use Rattle.std.specs.declared.cmp.Reverse.{Reverse}
use Rattle.std.specs.Ordering.{is_lt, nat_cmp, ordering_then}
use Rattle.go_report.specs.declared.lines.Line.{Line}
use Rattle.go_report.specs.LineOrder.{end_of}
use Rattle.go_report.specs.Report.{line_view}
use Rattle.go_check.proofs.OrderedLemmas.{in_order, then_behind}
use Rattle.go_check.proofs.line_order.put_in_order.Goals as goal

abbrev Key : Type 0
Key = ℕ × ℕ × Reverse ℕ × Reverse ℕ

abbrev key : Line → Key
key l = (l.at.line, l.at.col, record { 0 = (end_of (line_view l).what).line }, record { 0 = (end_of (line_view l).what).col })

same_key : (r : Key) (l : Line) → r.0 ≡ l.at.line → r.1 ≡ l.at.col → r.2.0 ≡ (end_of (line_view l).what).line → r.3.0 ≡ (end_of (line_view l).what).col → r ≡ key l
same_key r l line col end_line end_col = λ i. (line i, col i, record { 0 = end_line i }, record { 0 = end_col i })

abbrev lt : Line → Line → Bool
lt a b = is_lt (ordering_then (ordering_then (ordering_then (nat_cmp (key a).0 (key b).0) (nat_cmp (key a).1 (key b).1)) (nat_cmp (key b).2.0 (key a).2.0)) (nat_cmp (key b).3.0 (key a).3.0))

pub returns : goal.returns
returns c =
    in_order lt c.args.lines.now.items c.sort_by_key.new.self.items
    (λ a b. ap is_lt (sym (then_behind (ordering_then (nat_cmp (key a).0 (key b).0) (nat_cmp (key a).1 (key b).1)) (nat_cmp (key b).2.0 (key a).2.0) (nat_cmp (key b).3.0 (key a).3.0))))
    c.sort_by_key.ensures.permutation
    (c.in_ok-sort_by_key.ensures.sorted key (always_returns_same _ (λ a r. r ≡ key a.0.now) _ (λ a r f called. (same_key r a.0.now (search rules) (search rules) (search rules) (search rules), search rules))))
    (c.sort_by_key.ensures.stable key (always_returns_same _ (λ a r. r ≡ key a.0.now) _ (λ a r f called. (same_key r a.0.now (search rules) (search rules) (search rules) (search rules), search rules))))
