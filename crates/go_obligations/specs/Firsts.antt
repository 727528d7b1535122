-- Methods by their names: which of one name is declared first.
use Rattle.std.specs.Prelude.{◌≡◌, ℕ, ◌<◌, ◌≤◌, ◌&&◌, Bool, true, nat_lt, Option, None, Some, List, slice_get}
use Rattle.std.specs.Map.{lookup}
use Rattle.std.specs.Option.{option_map_or}
use Rattle.go_module.specs.Modules.Paths.{same_text}
use Rattle.go_judge.specs.Types.TypeSets.{home_of}
use Rattle.go_obligations.specs.declared.methods.Method.{Method}

-- a name, and the path of the package where it is not exported
abbrev pub Key : Type 0
Key = List ℕ × List ℕ

abbrev pub same_key : Key → Key → Bool
same_key a b = same_text a.0 b.0 && same_text a.1 b.1

abbrev pub key_of : Method → Key
key_of m = (m.name, home_of m.name m.«package»)

-- among so many methods one has the name, and none of the name is declared before it
pub record IsFirst (methods : List Method) (count : ℕ) (key : Key) (place : ℕ) : Type 0 where
  pub first : Method
  pub at : slice_get methods place ≡ Some first
  pub named : key_of first ≡ key
  pub least : (i : ℕ) (m : Method) → i < count → slice_get methods i ≡ Some m → key_of m ≡ key → first.object.0 ≤ m.object.0

abbrev pub IsFirstOf : List Method → ℕ → Key → Option ℕ → Type 0
IsFirstOf methods count key None = (i : ℕ) (m : Method) → i < count → slice_get methods i ≡ Some m → key_of m ≡ key → ⊥
IsFirstOf methods count key (Some place) = IsFirst methods count key place

-- the place by entries
abbrev pub first_by : List (Key × ℕ) → Key → Option ℕ
first_by entries key = lookup (same_key key) entries

-- a method is declared before the first so far, if there is one
abbrev pub is_declared_before : List Method → Method → Option ℕ → Bool
is_declared_before methods m None = true
is_declared_before methods m (Some place) = option_map_or (λ f. nat_lt m.object.0 f.object.0) (slice_get methods place) true

-- entries have the place of a first of each name among so many methods
abbrev pub AreFirsts : List Method → ℕ → List (Key × ℕ) → Type 0
AreFirsts methods count entries = (key : Key) → IsFirstOf methods count key (first_by entries key)
