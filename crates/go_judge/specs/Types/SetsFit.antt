-- Type identity; Interface types (Go specification).
-- Decides what can be told of two type sets before any type in them is asked: which methods have one name, in order by name,
-- and whether the sets have methods of the same names and unions both or neither.
use Rattle.std.specs.Prelude.{ℕ, ◌+◌, ◌&&◌, nat_le, Bool, true, false, if◌then◌else◌, List, [], ◌∷◌, map, filter}
use Rattle.std.specs.List.{flat_map, list_all, list_any}
use Rattle.go_module.specs.Modules.Paths.{same_text}
use Rattle.go_judge.specs.Types.Heads.{same_truth}
use Rattle.go_judge.specs.Types.TypeSets.{MethodData, SetData, TermData}

abbrev pub has_name : MethodData → MethodData → Bool
has_name a b = same_text a.name b.name && same_text a.home b.home

-- the name stands before the other, or is the same and stands so by the package
abbrev pub text_before : List ℕ → List ℕ → Bool
text_before [] [] = false
text_before [] (c ∷ cs) = true
text_before (b ∷ bs) [] = false
text_before (b ∷ bs) (c ∷ cs) = if nat_le (b + 1) c then true else if nat_le (c + 1) b then false else text_before bs cs

abbrev pub is_before : MethodData → MethodData → Bool
is_before a b = if text_before a.name b.name then true else (same_text a.name b.name && text_before a.home b.home)

abbrev pub put_by_name : MethodData → List MethodData → List MethodData
put_by_name m [] = m ∷ []
put_by_name m (n ∷ ns) = if is_before n m then n ∷ put_by_name m ns else m ∷ n ∷ ns

abbrev pub by_name : List MethodData → List MethodData
by_name [] = []
by_name (m ∷ ms) = put_by_name m (by_name ms)

-- each method of the ones with each of the others that has its name
abbrev pub method_pairs : List MethodData → List MethodData → List (MethodData × MethodData)
method_pairs ms ns = flat_map (λ m. map (λ n. (m, n)) (filter (has_name m) ns)) (by_name ms)

abbrev pub has_names_of : List MethodData → List MethodData → Bool
has_names_of ms ns = list_all (λ n. list_any (has_name n) ms) ns

-- no union leaves a type out
abbrev pub is_all_by : List (List TermData) → Bool
is_all_by [] = true
is_all_by (u ∷ us) = false

abbrev pub is_all : SetData → Bool
is_all s = is_all_by s.unions

-- methods of the same names, unions in both or in neither, and where there are none `comparable` in both or in neither
abbrev pub sets_fit : SetData → SetData → Bool
sets_fit s t =
    has_names_of s.methods t.methods && has_names_of t.methods s.methods && same_truth (is_all s) (is_all t)
    && (if is_all s then same_truth s.comparable t.comparable else true)
