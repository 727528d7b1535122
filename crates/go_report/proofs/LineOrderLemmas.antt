-- The order of lines is a strict weak order, so that a sort can go by it, and there is one list in order of the lines that
-- were found.
use Rattle.std.proofs.Common.{◌≡◌, List, [], ◌∷◌, ◌++◌, refl, sym, ap, ◌∙◌}
use Rattle.std.specs.Cmp.{IsStrictWeakOrder, IsTotalOrder, back_total, nat_cmp_total, on_total, then_total}
use Rattle.std.specs.Ordering.{flip_args, on, then_cmp}
use Rattle.std.proofs.lemmas.List.Sorted.{ranks_by}
use Rattle.go_base.specs.declared.places.LineCol.{LineCol}
use Rattle.go_report.specs.LineOrder.{AreInOrder, IsInOrder, end_of, is_before, no_file, one_more, place_cmp, start_of_line}
use Rattle.go_report.specs.Report.{LineData}
use Rattle.go_judge.proofs.StableLemmas.{one_stable}

place_total : IsTotalOrder place_cmp
place_total = then_total (on_total (λ (p : LineCol). p.line) nat_cmp_total) (on_total (λ (p : LineCol). p.col) nat_cmp_total)

line_total : IsTotalOrder (then_cmp (on start_of_line place_cmp) (flip_args (on (λ (line : LineData). end_of line.what) place_cmp)))
line_total = then_total (on_total start_of_line place_total) (back_total (on_total (λ (line : LineData). end_of line.what) place_total))

pub is_before_ranks : IsStrictWeakOrder is_before
is_before_ranks = ranks_by line_total (λ line. line)

pub one_order : (found a b : List LineData) → IsInOrder found a → IsInOrder found b → a ≡ b
one_order found a b i j = one_stable is_before is_before_ranks found a b i.ordered j.ordered i.stable j.stable

pub one_list_in_order : (found : List (List LineData)) (a b : List LineData) → AreInOrder found a → AreInOrder found b → a ≡ b
one_list_in_order [] a b no_file no_file = refl
one_list_in_order (found ∷ others) a b (one_more _ here _ rest _ i more e) (one_more _ there _ other _ j less f) =
    e
    ∙ ap (λ (xs : List LineData). xs ++ rest) (one_order found here there i j)
    ∙ ap (λ (xs : List LineData). there ++ xs) (one_list_in_order others rest other more less)
    ∙ sym f
