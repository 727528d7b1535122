-- Lemmas on objects that are found by their numbers.
use Rattle.std.proofs.Common.{◌≡◌, ℕ, suc, ◌-◌, ◌<◌, Bool, true, false, cond, find, Option, Some, List, ◌∷◌, length, drop, drop-cons, get_or, sym, ap, ◌∙◌, arith}
use Rattle.std.proofs.lemmas.Option.{slice_get-get_or}
use Rattle.std.specs.Prelude.{slice_get}
use Rattle.std.specs.Map.{lookup}
use Rattle.std.specs.Option.{option_and_then}
use Rattle.indexmap.specs.IndexMap.{insert_entry}
use Rattle.go_base.specs.declared.ids.ObjId.{ObjId}
use Rattle.go_module.specs.Scopes.{same_object}
use Rattle.go_report.specs.declared.lines.NamedObject.{NamedObject}
use Rattle.go_judge.proofs.EntryLemmas.{found_behind}

-- entries have the places of the first objects of each number among those from a place on
abbrev pub ArePlacesFrom : List NamedObject → ℕ → List (ObjId × ℕ) → Type 0
ArePlacesFrom objects n entries =
    (d : ObjId) → option_and_then (slice_get objects) (lookup (same_object d) entries)
    ≡ find (λ o. same_object d o.object) (drop n objects)

first_by : {A B : Type 0} (f : A → Option B) (test : Bool) (a : A) (b : B) (place : Option A) (found : Option B)
    → f a ≡ Some b → option_and_then f place ≡ found
    → option_and_then f (cond test (Some a) place) ≡ cond test (Some b) found
first_by f true a b place found first others = first
first_by f false a b place found first others = others

-- one more object, from the last to the first
pub one_more_place : (objects : List NamedObject) (n : ℕ) (x : NamedObject) (es new : List (ObjId × ℕ))
    → 0 < n → n - 1 < length objects → new ≡ insert_entry same_object es (get_or objects (n - 1) x).object (n - 1)
    → ArePlacesFrom objects n es → ArePlacesFrom objects (n - 1) new
one_more_place objects n x es new some lt added so_far d =
    let object = get_or objects (n - 1) x in
    let found = find (λ (o : NamedObject). same_object d o.object) in
    let after : suc (n - 1) ≡ n = omega (arith, some) in
    let split : drop (n - 1) objects ≡ object ∷ drop n objects =
    drop-cons objects (n - 1) x lt ∙ ap (λ k. object ∷ drop k objects) after in
    let here : slice_get objects (n - 1) ≡ Some object = slice_get-get_or objects (n - 1) x lt in
    ap (λ es. option_and_then (slice_get objects) (lookup (same_object d) es)) added
    ∙ (ap (option_and_then (slice_get objects)) (found_behind d es object.object (n - 1))
    ∙ (first_by (slice_get objects) (same_object d object.object) (n - 1) object _ _ here (so_far d)
    ∙ ap found (sym split)))
