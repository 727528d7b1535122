-- Lines in their order, and what they stand for.
use Rattle.std.proofs.Common.{◌≡◌, ℕ, zero, suc, ◌+◌, ◌<◌, Bool, not, List, [], ◌∷◌, None, length, get_or, map, filter, refl, sym, ap, ◌∙◌, subst, arith}
use Rattle.std.specs.Prelude.{◌&&◌}
use Rattle.std.specs.List.Sorted.{IsPermutation, IsSortedBy, IsStableBy, ties}
use Rattle.std.proofs.lemmas.List.Sorted.{IsPermutation-map}
use Rattle.std.proofs.lemmas.List.{length-map}
use Rattle.std.specs.declared.cmp.Ordering.{Ordering}
use Rattle.std.specs.declared.cmp.Ordering.TheVariants.{Less, Equal, Greater}
use Rattle.std.specs.Ordering.{is_lt, ordering_then}
use Rattle.go_base.specs.declared.places.LineCol.{LineCol}
use Rattle.go_names.proofs.InnerLemmas.{map-filter}
use Rattle.go_report.specs.declared.lines.Line.{Line}
use Rattle.go_report.specs.declared.lines.What.{What}
use Rattle.go_report.specs.declared.lines.What.TheVariants.{Used, Expr}
use Rattle.go_report.specs.LineOrder.{IsInOrder, end_of, is_before, place_cmp, start_of_line}
use Rattle.go_report.specs.Report.{LineData, WhatData, defined, used, expression, line_view, what_view}

-- an element of a list of views
get-map : {X Y : Type 0} (f : X → Y) (xs : List X) (k : ℕ) (d : Y) (e : X) → k < length xs → get_or (map f xs) k d ≡ f (get_or xs k e)
get-map f [] k d e within = absurd (omega arith)
get-map f (x ∷ xs) zero d e within = refl
get-map f (x ∷ xs) (suc k) d e within = get-map f xs k d e (omega arith)

sorted-map : {X Y : Type 0} (f : X → Y) (lt : Y → Y → Bool) (xs : List X) → IsSortedBy (λ a b. lt (f a) (f b)) xs → IsSortedBy lt (map f xs)
sorted-map f lt [] sorted k d low within = absurd (omega arith)
sorted-map {X} {Y} f lt (x ∷ xs) sorted k d low within =
    let inside : k + 1 < length (x ∷ xs) = omega (arith, within, length-map (x ∷ xs) f) in
    ap (λ (a : Y). lt a (get_or (map f (x ∷ xs)) k d)) (get-map f (x ∷ xs) (k + 1) d x inside)
    ∙ ap (λ (b : Y). lt (f (get_or (x ∷ xs) (k + 1) x)) b) (get-map f (x ∷ xs) k d x (omega arith))
    ∙ sorted k x low inside

-- for each line as data there is one of the program that ties with it
like : WhatData → What
like (defined name kind) = Used [] None
like (used name at) = Used [] None
like (expression end mode type value) = Expr end mode None None

like_ends : (w : WhatData) → end_of w ≡ end_of (what_view (like w))
unfolding like
like_ends (defined name kind) = refl
like_ends (used name at) = refl
like_ends (expression end mode type value) = refl

line_like : LineData → Line
line_like y = record { at = y.at; what = like y.what }

before_by : LineCol → LineCol → LineCol → LineCol → Bool
before_by s e t u = is_lt (ordering_then (place_cmp s t) (place_cmp u e))

ties_like : (y : LineData) → ties is_before y ≡ ties is_before (line_view (line_like y))
unfolding before_by line_like
ties_like y =
    let at : LineCol → LineData → Bool = λ e z. not (before_by (start_of_line y) e (start_of_line z) (end_of z.what)) && not (before_by (start_of_line z) (end_of z.what) (start_of_line y) e) in
    ap at (like_ends y.what)

stable-lines : (xs ys : List Line) → IsStableBy (λ a b. is_before (line_view a) (line_view b)) xs ys → IsStableBy is_before (map line_view xs) (map line_view ys)
stable-lines xs ys stable y =
    let p : LineData → Bool = ties is_before (line_view (line_like y)) in
    ap (λ (q : LineData → Bool). filter q (map line_view ys)) (ties_like y)
    ∙ sym (map-filter line_view p ys)
    ∙ ap (map line_view) (stable (line_like y))
    ∙ map-filter line_view p xs
    ∙ sym (ap (λ (q : LineData → Bool). filter q (map line_view xs)) (ties_like y))

-- a stable sort by a test that is that of lines as data
pub in_order : (lt : Line → Line → Bool) (xs ys : List Line) → ((a b : Line) → lt a b ≡ is_before (line_view a) (line_view b)) → IsPermutation xs ys → IsSortedBy lt ys → IsStableBy lt xs ys → IsInOrder (map line_view xs) (map line_view ys)
in_order lt xs ys is same sorted stable =
    let tests : lt ≡ (λ (a b : Line). is_before (line_view a) (line_view b)) = λ i. λ (a b : Line). is a b i in
    record {
      same = IsPermutation-map line_view xs ys same;
      ordered = sorted-map line_view is_before ys (subst (λ (t : Line → Line → Bool). IsSortedBy t ys) tests sorted);
      stable = stable-lines xs ys (subst (λ (t : Line → Line → Bool). IsStableBy t xs ys) tests stable);
    }

-- one comparison after another
pub then_behind : (a b c : Ordering) → ordering_then a (ordering_then b c) ≡ ordering_then (ordering_then a b) c
then_behind Less b c = refl
then_behind Equal b c = refl
then_behind Greater b c = refl
