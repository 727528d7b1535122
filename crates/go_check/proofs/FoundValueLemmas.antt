-- What the values and the types of a package break, by what was found of each.
use Rattle.std.proofs.Common.{◌≡◌, ◌∙◌, ℕ, Some, List, [], ◌++◌, ◌⊎◌, inl, inr, Contains, sym, subst}
use Rattle.std.specs.Prelude.{◌↔◌}
use Rattle.std.proofs.lemmas.List.Elements.{Contains-append_cases, Contains-append_left, Contains-append_right}
use Rattle.go_base.specs.declared.rule.Broken.{Broken}
use Rattle.go_tree.specs.Tree.{Tree}
use Rattle.go_module.specs.Modules.Module.{ModuleData, PackageData}
use Rattle.go_module.specs.Names.Declarations.{declarations_of}
use Rattle.go_module.specs.Order.{IsListOf}
use Rattle.go_model.specs.Obligations.Obliged.{Obliged}
use Rattle.go_judge.specs.Records.{HeaderData}
use Rattle.go_judge.specs.Headers.{Headers, Outcomes}
use Rattle.go_model.specs.Outcomes.Walk.{outcome}
use Rattle.go_model.specs.Outcomes.Walked.{AreWalked}
use Rattle.go_report.specs.Phases.{BreaksShapes, BreaksValues}
use Rattle.go_values.specs.ByValue.{AreContained, broken_contained}
use Rattle.go_values.specs.Headers.{Known}
use Rattle.go_judge.specs.Naming.{Naming}
use Rattle.go_model.specs.Naming.{names_in}
use Rattle.go_values.specs.Rules.{broken_values}
use Rattle.go_decl.specs.Broken.{AreBroken}

-- lists of the same members, one behind another
module _ (values contained obliged fs gs : List Broken) where
  joined : ((b : Broken) → Contains values b → Contains fs b) → ((b : Broken) → Contains contained b → Contains gs b)
      → (b : Broken) → Contains ((values ++ contained) ++ obliged) b → Contains (fs ++ (gs ++ obliged)) b
  joined f g b among = by_last (Contains-append_cases (values ++ contained) obliged b among)
    where
      by_first : Contains values b ⊎ Contains contained b → Contains (fs ++ (gs ++ obliged)) b
      by_first (inl h) = Contains-append_left fs (gs ++ obliged) b (f b h)
      by_first (inr h) = Contains-append_right fs (gs ++ obliged) b (Contains-append_left gs obliged b (g b h))

      by_last : Contains (values ++ contained) b ⊎ Contains obliged b → Contains (fs ++ (gs ++ obliged)) b
      by_last (inl h) = by_first (Contains-append_cases values contained b h)
      by_last (inr h) = Contains-append_right fs (gs ++ obliged) b (Contains-append_right gs obliged b h)

  parted : ((b : Broken) → Contains fs b → Contains values b) → ((b : Broken) → Contains gs b → Contains contained b)
      → (b : Broken) → Contains (fs ++ (gs ++ obliged)) b → Contains ((values ++ contained) ++ obliged) b
  parted f g b among = by_first (Contains-append_cases fs (gs ++ obliged) b among)
    where
      by_rest : Contains gs b ⊎ Contains obliged b → Contains ((values ++ contained) ++ obliged) b
      by_rest (inl h) = Contains-append_left (values ++ contained) obliged b (Contains-append_right values contained b (g b h))
      by_rest (inr h) = Contains-append_right (values ++ contained) obliged b h

      by_first : Contains fs b ⊎ Contains (gs ++ obliged) b → Contains ((values ++ contained) ++ obliged) b
      by_first (inl h) = Contains-append_left (values ++ contained) obliged b (Contains-append_left values contained b (f b h))
      by_first (inr h) = by_rest (Contains-append_cases gs obliged b h)

  one_of_all : IsListOf fs values → IsListOf gs contained → (list : List Broken) → IsListOf ((values ++ contained) ++ obliged) list → IsListOf (fs ++ (gs ++ obliged)) list
  one_of_all first second list whole = record {
    ascending = whole.ascending;
    same = λ b. (
      λ h. joined (λ c i. (first.same c).0 i) (λ c i. (second.same c).0 i) b ((whole.same b).0 h),
      λ h. (whole.same b).1 (parted (λ c i. (first.same c).1 i) (λ c i. (second.same c).1 i) b h),
    );
  }

-- what the values and the types break
pub breaks : (m : ModuleData) (k : ℕ) (p : PackageData) (before headers : Headers) (values contained obliged list : List Broken) → BreaksShapes m k p []
    → ((d : ℕ) (h : HeaderData) → (headers d ≡ Some h) ↔ Known before (names_in m k p) (declarations_of p) d h)
    → AreBroken (names_in m k p) headers p values → AreContained headers p contained
    → ((b : Broken) → Contains obliged b ↔ Obliged (outcome (names_in m k p) headers) headers p b)
    → IsListOf ((values ++ contained) ++ obliged) list → BreaksValues m k p before headers list
breaks m k p before headers values contained obliged list shapes known broken held owed whole = record {
  sound_shapes = shapes;
  cyclic = broken.cyclic;
  has_headers = record { known = known; is_cyclic = broken.is_cyclic };
  contained = held.contained;
  is_contained = held.is_contained;
  obliged = obliged;
  is_obliged = owed;
  is_list = one_of_all values contained obliged (broken_values (names_in m k p) headers broken.cyclic p) (broken_contained held.contained p) broken.is_list held.is_list list whole;
}

-- the same, where each call leaves names and headers as they were
pub breaks_over : (m : ModuleData) (k : ℕ) (p : PackageData) (before : Headers) (naming later : Naming) (h1 h2 h3 : Headers) (values contained obliged list : List Broken)
    → naming ≡ names_in m k p → later ≡ naming → h2 ≡ h1 → h3 ≡ h2 → BreaksShapes m k p []
    → ((d : ℕ) (h : HeaderData) → (h1 d ≡ Some h) ↔ Known before naming (declarations_of p) d h)
    → AreBroken naming h1 p values → AreContained h1 p contained
    → ((b : Broken) → Contains obliged b ↔ Obliged (outcome later h2) h2 p b)
    → IsListOf ((values ++ contained) ++ obliged) list → BreaksValues m k p before h3 list
breaks_over m k p before naming later h1 h2 h3 values contained obliged list named kept second third shapes known broken held owed whole =
    let own_known = subst (λ (n : Naming). (d : ℕ) (h : HeaderData) → (h1 d ≡ Some h) ↔ Known before n (declarations_of p) d h) named known in
    let own_broken = subst (λ (n : Naming). AreBroken n h1 p values) named broken in
    let by_names = subst (λ (n : Naming). (b : Broken) → Contains obliged b ↔ Obliged (outcome n h2) h2 p b) (kept ∙ named) owed in
    let own_owed = subst (λ (hs : Headers). (b : Broken) → Contains obliged b ↔ Obliged (outcome (names_in m k p) hs) hs p b) second by_names in
    subst (λ (hs : Headers). BreaksValues m k p before hs list) (sym (third ∙ second))
    (breaks m k p before h1 values contained obliged list shapes own_known own_broken held own_owed whole)

-- nodes that were walked still are, over names, headers and outcomes that stay
pub still_walked : {naming naming' : Naming} {headers headers' : Headers} {outcomes outcomes' : Outcomes} (nodes : List Tree) → naming' ≡ naming → headers' ≡ headers → outcomes' ≡ outcomes
    → AreWalked naming headers nodes outcomes → AreWalked naming' headers' nodes outcomes'
still_walked {naming} {naming'} {headers} {headers'} {outcomes} {outcomes'} nodes names same walked are =
    subst (λ (n : Naming). AreWalked n headers' nodes outcomes') (sym names)
    (subst (λ (hs : Headers). AreWalked naming hs nodes outcomes') (sym same)
    (subst (λ (os : Outcomes). AreWalked naming headers nodes os) (sym walked) are))
