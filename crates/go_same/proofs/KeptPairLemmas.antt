-- Pairs of interfaces that were found identical: what a call of a judge keeps of them, and one more of them.
use Rattle.std.proofs.Common.{◌≡◌, ℕ, ◌<◌, Bool, true, false, List, [], ◌∷◌, ◌++◌, length, get_or, sym, ap, subst, ◌∙◌}
use Rattle.std.specs.List.{AllByRecursion}
use Rattle.std.specs.Prelude.{OnOk, Result, Ok, Err}
use Rattle.std.proofs.lemmas.List.Elements.{All-from_recursion}
use Rattle.go_term.specs.Shapes.{shape_tree}
use Rattle.go_term.specs.Types.{TypeData}
use Rattle.go_term.specs.declared.shape.Shape.{Shape}
use Rattle.go_term.specs.declared.term.Term.{Term}
use Rattle.go_judge.specs.Headers.{Headers, Outcomes}
use Rattle.go_judge.specs.Types.Heads.{alike}
use Rattle.go_judge.specs.Types.Own.{AreOwn, Keeps, KeepsTypes}
use Rattle.go_judge.specs.Types.TypeSets.{plain}
use Rattle.go_judge.specs.Naming.{Naming}
use Rattle.go_judge.specs.Quests.{Decided, run}
use Rattle.go_same.specs.Bounded as bounded
use Rattle.go_same.specs.Kept.{AreKept, IsKept}
use Rattle.go_same.specs.Layers.{IsOwnPair, pair_view}
use Rattle.go_same.specs.declared.bounds.Bounds.{Bounds}
use Rattle.go_same.specs.declared.kept.Kept.{Kept}
use Rattle.go_same.specs.declared.kept.KeptPair.{KeptPair}
use Rattle.go_same.proofs.AlikeLemmas.{alike_is}
use Rattle.go_same.proofs.KeepLemmas.{all-joined, all-weaker}
use Rattle.go_same.proofs.KeptLemmas.{layer_kept, layer_stays}

-- over a judge that has gone on
module _ {World : Type 0} {h h' : Headers} {n n' : Naming} {o o' : Outcomes} {s s' : Bool} {w w' : World} {own own' : Term → Type 0} {tree tree' : Term → TypeData}
    (keeps : Keeps h h' n n' o o' s s' w w' own own' tree tree') where
  -- the question of two interfaces
  pub layers_moved : (bounds : Bounds) (x y : Shape) → AreOwn own x → AreOwn own y → run h' (bounded.same_interfaces bounds (pair_view tree' (x, y))) ≡ run h (bounded.same_interfaces bounds (pair_view tree (x, y)))
  layers_moved bounds x y x_own y_own = λ j. run (keeps.same j) (bounded.same_interfaces bounds (plain (layer_kept keeps.kept x x_own j), plain (layer_kept keeps.kept y y_own j)))

  pair_stays : (p : KeptPair) → IsKept h own tree p → IsKept h' own' tree' p
  pair_stays p is = record {
    types = (layer_stays keeps.kept p.x is.types.0, layer_stays keeps.kept p.y is.types.1);
    told = layers_moved p.bounds p.x p.y is.types.0 is.types.1 ∙ is.told;
  }

  pub kept_stay : (kept : Kept) → AreKept h own tree kept → AreKept h' own' tree' kept
  kept_stay kept all = all-weaker (IsKept h own tree) (IsKept h' own' tree') pair_stays kept.pairs.items all

  -- one of them
  pub pair_kept : (ps : List KeptPair) (i : ℕ) (p : KeptPair) → i < length ps → p ≡ get_or ps i p → AllByRecursion (IsKept h own tree) ps → IsKept h' own' tree' p
  pair_kept ps i p lt at all = pair_stays p (subst (IsKept h own tree) (sym at) (All-from_recursion (IsKept h own tree) ps all i p lt))

-- layers that are alike to those of a pair have its answer within its bounds
pub kept_told : {own : Term → Type 0} (known : Headers) (tree : Term → TypeData) (p : KeptPair) (bounds : Bounds) (x y : Shape) → IsKept known own tree p → p.bounds ≡ bounds → pair_view tree (p.x, p.y) ≡ pair_view tree (x, y)
    → run known (bounded.same_interfaces bounds (pair_view tree (x, y))) ≡ Decided true
kept_told known tree p bounds x y is limits layers = (λ j. run known (bounded.same_interfaces (sym limits j) (sym layers j))) ∙ is.told

-- layers that are alike, the second ones over a judge that has gone on
pub layers_alike : {own own' : Term → Type 0} {tree tree' : Term → TypeData} → KeepsTypes own own' tree tree' → (p : KeptPair) (x y : Shape) → AreOwn own p.y → AreOwn own y
    → alike (plain (shape_tree tree p.x)) (plain (shape_tree tree x)) ≡ true → alike (plain (shape_tree tree' p.y)) (plain (shape_tree tree' y)) ≡ true → pair_view tree (p.x, p.y) ≡ pair_view tree (x, y)
layers_alike {own} {own'} {tree} {tree'} kept p x y p_own y_own first second =
    let one = alike_is (shape_tree tree p.x) (shape_tree tree x) first in
    let other : plain (shape_tree tree p.y) ≡ plain (shape_tree tree y) = ap plain (sym (layer_kept kept p.y p_own)) ∙ alike_is (shape_tree tree' p.y) (shape_tree tree' y) second ∙ ap plain (layer_kept kept y y_own) in
    λ j. (one j, other j)

-- layers that are not alike are not over a judge that has gone on
pub apart_moved : {own own' : Term → Type 0} {tree tree' : Term → TypeData} → KeepsTypes own own' tree tree' → (x y : Shape) → AreOwn own x → AreOwn own y
    → alike (plain (shape_tree tree x)) (plain (shape_tree tree y)) ≡ false → alike (plain (shape_tree tree' x)) (plain (shape_tree tree' y)) ≡ false
apart_moved kept x y x_own y_own apart = (λ j. alike (plain (layer_kept kept x x_own j)) (plain (layer_kept kept y y_own j))) ∙ apart

-- a pair more whose types were found identical
module _ {World : Type 0} {h h' : Headers} {n n' : Naming} {o o' : Outcomes} {s s' : Bool} {w w' : World} {own own' : Term → Type 0} {tree tree' : Term → TypeData}
    (keeps : Keeps h h' n n' o o' s s' w w' own own' tree tree') (bounds : Bounds) (layers : Shape × Shape) (layers_own : IsOwnPair own layers) (types : TypeData × TypeData) (are : pair_view tree layers ≡ types)
    (told : Decided true ≡ run h (bounded.same_interfaces bounds types)) where
  pub pair_found : IsKept h' own' tree' (record { bounds = bounds; x = layers.0; y = layers.1 })
  pair_found = record {
    types = (layer_stays keeps.kept layers.0 layers_own.0, layer_stays keeps.kept layers.1 layers_own.1);
    told = layers_moved keeps bounds layers.0 layers.1 layers_own.0 layers_own.1 ∙ (λ j. run h (bounded.same_interfaces bounds (are j))) ∙ sym told;
  }

  pub kept_more : (pairs more : List KeptPair) → AllByRecursion (IsKept h' own' tree') pairs → more ≡ pairs ++ record { bounds = bounds; x = layers.0; y = layers.1 } ∷ [] → AllByRecursion (IsKept h' own' tree') more
  kept_more pairs more all e = subst (AllByRecursion (IsKept h' own' tree')) (sym e) (all-joined (IsKept h' own' tree') pairs (record { bounds = bounds; x = layers.0; y = layers.1 } ∷ []) all (pair_found, tt))

-- what holds anyway holds where a call that comes last answers
pub on_ok : {X E : Type 0} (r : Result X E) (P : Type 0) → P → OnOk r P
on_ok (Ok x) P holds = holds
on_ok (Err e) P holds = tt
