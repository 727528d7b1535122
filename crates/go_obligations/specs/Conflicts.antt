-- Which methods differ from the first of their name, over headers and the trees for which types stand.
use Rattle.std.specs.Prelude.{◌≡◌, ℕ, ◌≤◌, ◌==◌, ◌&&◌, ◌||◌, Bool, true, false, not, Some, List, Contains, slice_get}
use Rattle.std.specs.List.{list_any}
use Rattle.go_term.specs.Types.{TypeData}
use Rattle.go_term.specs.declared.term.Term.{Term}
use Rattle.go_judge.specs.Headers.{Headers}
use Rattle.go_judge.specs.Types.TypeIdentity.{identical}
use Rattle.go_judge.specs.Quests.{Asked, Decided, run}
use Rattle.go_obligations.specs.Firsts.{Key, first_by, key_of, same_key}
use Rattle.go_obligations.specs.declared.methods.Method.{Method}

abbrev pub is_no : Asked Bool → Bool
is_no (Decided truth) = not truth
is_no asked = false

-- the types of two methods are known to differ
abbrev pub differ : Headers → (Term → TypeData) → Method → Method → Bool
differ headers tree a b = is_no (run headers (identical (tree a.signature) (tree b.signature)))

-- a method stands elsewhere than a first, and is declared there too
abbrev pub is_further : ℕ → Method → ℕ → Method → Bool
is_further place first i m = not (i == place) && (m.object.0 == first.object.0)

module _ (differ : Method → Method → Bool) (methods : List Method) where
  -- a method of the name of this one differs from it
  abbrev pub differs_from_any : Method → Bool
  differs_from_any m = list_any (λ o. same_key (key_of m) (key_of o) && differ m o) methods

  -- a method differs from a first of its name or, where it is a further first itself, another differs from it
  abbrev pub conflicts : Method → Bool → Method → Bool
  conflicts first further m = differ first m || (further && differs_from_any m)

  -- the method at a place does so or not, by the places of firsts
  abbrev pub ConflictsAt : List (Key × ℕ) → ℕ → Bool → Type 0
  ConflictsAt firsts i truth =
      (m first : Method) (place : ℕ) → slice_get methods i ≡ Some m → first_by firsts (key_of m) ≡ Some place
      → slice_get methods place ≡ Some first → truth ≡ conflicts first (is_further place first i m) m

  -- one of the methods differs from a first of its name
  pub record AreInConflict : Type 0 where
    pub first : Method
    pub other : Method
    pub has_first : Contains methods first
    pub has_other : Contains methods other
    pub named_alike : key_of first ≡ key_of other
    pub is_first : (m : Method) → Contains methods m → key_of first ≡ key_of m → first.object.0 ≤ m.object.0
    pub differing : differ first other ≡ true
