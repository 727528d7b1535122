-- A module has one report at most.
use Rattle.std.proofs.Common.{◌≡◌, ℕ, ◌+◌, Bool, true, false, List, [], ◌∷◌, ◌++◌, ◌⊎◌, inl, inr, map, Contains, Option, Some, None, refl, sym, ap, ◌∙◌, subst}
use Rattle.std.specs.Prelude.{◌↔◌}
use Rattle.std.proofs.Math.Path.{fun_ext}
use Rattle.std.proofs.lemmas.List.Elements.{Contains-append_cases, Contains-append_left, Contains-append_right}
use Rattle.go_base.specs.declared.rule.Broken.{Broken}
use Rattle.go_module.specs.Names.Declarations.{Declaration, declarations_of}
use Rattle.go_module.specs.Order.{IsListOf}
use Rattle.go_judge.specs.Naming.{Naming}
use Rattle.go_model.specs.Naming.{names_in}
use Rattle.go_module.specs.Modules.Module.{ModuleData, PackageData}
use Rattle.go_module.specs.Places.{placed_by}
use Rattle.go_model.specs.Obligations.Obliged.{Obliged}
use Rattle.go_judge.specs.Headers.{Headers}
use Rattle.go_model.specs.Outcomes.Walk.{outcome}
use Rattle.go_report.specs.Outline.{outline_of}
use Rattle.go_report.specs.PackageLines.{named_in}
use Rattle.go_report.specs.Report.{LineData, VerdictData, refused, skipped, accepted, PackageReportData, ReportData}
use Rattle.go_values.specs.ByValue.{Contained, broken_contained}
use Rattle.go_values.specs.Rules.{broken_values}
use Rattle.go_values.specs.Waiting.{Chain}
use Rattle.go_module.specs.Names.Rules.BrokenNames.{broken_names}
use Rattle.go_module.specs.Names.Imports.{known_in}
use Rattle.go_report.specs.Phases.{HasHeaders, BreaksShapes, BreaksValues, IsVerdict, by_names, by_shapes, by_values, denoted_in, sound, is_accepted, package_report, ArePackageLines, AreReports, no_headers, all_told, skips, checks, ReportOf}
use Rattle.go_report.proofs.LineOrderLemmas.{one_list_in_order}
use Rattle.go_module.proofs.BrokenListLemmas.{one_list, none_of_none}
use Rattle.go_base.specs.declared.ids.ObjId.{ObjId}
use Rattle.go_tree.specs.declared.node.NodeId.{NodeId}
use Rattle.go_cycles.specs.Shapes.{AreShapes, broken_shapes}

same_option : {H : Type 0} (x y : Option H) → ((h : H) → x ≡ Some h → y ≡ Some h) → ((h : H) → y ≡ Some h → x ≡ Some h) → x ≡ y
same_option None None f g = refl
same_option None (Some h) f g = g h refl
same_option (Some h) y f g = sym (f h refl)

same_bool : (x y : Bool) → (x ≡ true → y ≡ true) → (y ≡ true → x ≡ true) → x ≡ y
same_bool true y f g = sym (f refl)
same_bool false true f g = g refl
same_bool false false f g = refl

-- nothing that was found has no list of some
no_list : (found : List Broken) (b : Broken) (bs : List Broken) → found ≡ [] → IsListOf found (b ∷ bs) → ⊥
no_list found b bs e i = let none = none_of_none (b ∷ bs) (subst (λ (f : List Broken). IsListOf f (b ∷ bs)) e i) in cc none

-- what has the same members has one list
list_of_same : (f g xs ys : List Broken) → ((b : Broken) → Contains f b → Contains g b) → ((b : Broken) → Contains g b → Contains f b) → IsListOf f xs → IsListOf g ys → xs ≡ ys
list_of_same f g xs ys to from i j =
    let there : IsListOf f ys = record { ascending = j.ascending; same = λ b. (λ h. from b ((j.same b).0 h), λ h. (j.same b).1 (to b h)) } in
    one_list f xs ys i there

-- a question that is answered exactly has one answer
same_answers : {P : ℕ → Type 0} (f g : ℕ → Bool) → ((d : ℕ) → (f d ≡ true) ↔ P d) → ((d : ℕ) → (g d ≡ true) ↔ P d) → f ≡ g
same_answers f g here there = fun_ext (λ d. same_bool (f d) (g d) (λ e. (there d).1 ((here d).0 e)) (λ e. (here d).1 ((there d).0 e)))

-- the type declarations of a package have one list at most
one_shapes : (denotes : NodeId → Option ObjId) (p : PackageData) (xs ys : List Broken) → AreShapes denotes p xs → AreShapes denotes p ys → xs ≡ ys
one_shapes denotes p xs ys a b =
    let returns : a.returns ≡ b.returns = same_answers a.returns b.returns a.is_return b.is_return in
    let embeds : a.embeds ≡ b.embeds = same_answers a.embeds b.embeds a.is_embedding b.is_embedding in
    let there : IsListOf (broken_shapes a.returns a.embeds p) ys =
    subst (λ (r : ℕ → Bool). IsListOf (broken_shapes r a.embeds p) ys) (sym returns) (subst (λ (e : ℕ → Bool). IsListOf (broken_shapes b.returns e p) ys) (sym embeds) b.is_list) in
    one_list (broken_shapes a.returns a.embeds p) xs ys a.is_list there

module _ (before : Headers) (naming : Naming) (declarations : List Declaration) where
  -- there is one map of headers at most
  one_map : (v w : Headers) (c d : ℕ → Bool) → HasHeaders before naming declarations v c → HasHeaders before naming declarations w d → v ≡ w
  one_map v w c d has other = fun_ext (λ n. same_option (v n) (w n) (λ h e. (other.known n h).1 ((has.known n h).0 e)) (λ h e. (has.known n h).1 ((other.known n h).0 e)))

  one_mark : (v w : Headers) (c d : ℕ → Bool) → HasHeaders before naming declarations v c → HasHeaders before naming declarations w d → c ≡ d
  one_mark v w c d has other =
      let over = subst (λ (hs : Headers). (n : ℕ) → (d n ≡ true) ↔ Chain naming declarations hs n n) (sym (one_map v w c d has other)) other.is_cyclic in
      fun_ext (λ n. same_bool (c n) (d n) (λ e. (over n).1 ((has.is_cyclic n).0 e)) (λ e. (has.is_cyclic n).1 ((over n).0 e)))

module _ (m : ModuleData) (k : ℕ) (p : PackageData) (before : Headers) where
  same_headers : (v w : Headers) (xs ys : List Broken) → BreaksValues m k p before v xs → BreaksValues m k p before w ys → v ≡ w
  same_headers v w xs ys a b = one_map before (names_in m k p) (declarations_of p) v w a.cyclic b.cyclic a.has_headers b.has_headers

  -- what values break is one list of found rules, but for the order of obligations
  abbrev all_broken : (headers : Headers) (xs : List Broken) → BreaksValues m k p before headers xs → List Broken
  all_broken headers xs a = broken_values (names_in m k p) headers a.cyclic p ++ (broken_contained a.contained p ++ a.obliged)

  all_within : (v w : Headers) (xs ys : List Broken) (a : BreaksValues m k p before v xs) (b : BreaksValues m k p before w ys) (x : Broken) → Contains (all_broken v xs a) x → Contains (all_broken w ys b) x
  all_within v w xs ys a b x among =
      let naming = names_in m k p in
      let headers = same_headers v w xs ys a b in
      let marks = one_mark before naming (declarations_of p) v w a.cyclic b.cyclic a.has_headers b.has_headers in
      let values : broken_values naming v a.cyclic p ≡ broken_values naming w b.cyclic p = (λ i. broken_values naming (headers i) (marks i) p) in
      let there : (d : ℕ) → (b.contained d ≡ true) ↔ Contained (declarations_of p) v d = subst (λ (hs : Headers). (d : ℕ) → (b.contained d ≡ true) ↔ Contained (declarations_of p) hs d) (sym headers) b.is_contained in
      let contained : a.contained ≡ b.contained = same_answers a.contained b.contained a.is_contained there in
      let obliged : Contains a.obliged x → Contains b.obliged x = (λ h. (b.is_obliged x).1 (subst (λ (hs : Headers). Obliged (outcome naming hs) hs p x) headers ((a.is_obliged x).0 h))) in
      by_part values contained obliged (Contains-append_cases (broken_values naming v a.cyclic p) (broken_contained a.contained p ++ a.obliged) x among)
    where
      by_rest : a.contained ≡ b.contained → (Contains a.obliged x → Contains b.obliged x) → Contains (broken_contained a.contained p) x ⊎ Contains a.obliged x → Contains (broken_contained b.contained p ++ b.obliged) x
      by_rest contained obliged (inl h) = Contains-append_left (broken_contained b.contained p) b.obliged x (subst (λ (c : ℕ → Bool). Contains (broken_contained c p) x) contained h)
      by_rest contained obliged (inr h) = Contains-append_right (broken_contained b.contained p) b.obliged x (obliged h)

      by_part : broken_values (names_in m k p) v a.cyclic p ≡ broken_values (names_in m k p) w b.cyclic p → a.contained ≡ b.contained → (Contains a.obliged x → Contains b.obliged x)
          → Contains (broken_values (names_in m k p) v a.cyclic p) x ⊎ Contains (broken_contained a.contained p ++ a.obliged) x → Contains (all_broken w ys b) x
      by_part values contained obliged (inl h) = Contains-append_left (broken_values (names_in m k p) w b.cyclic p) (broken_contained b.contained p ++ b.obliged) x (subst (λ (l : List Broken). Contains l x) values h)
      by_part values contained obliged (inr h) =
          Contains-append_right (broken_values (names_in m k p) w b.cyclic p) (broken_contained b.contained p ++ b.obliged) x
          (by_rest contained obliged (Contains-append_cases (broken_contained a.contained p) a.obliged x h))

  same_values : (v w : Headers) (xs ys : List Broken) → BreaksValues m k p before v xs → BreaksValues m k p before w ys → xs ≡ ys
  same_values v w xs ys a b = list_of_same (all_broken v xs a) (all_broken w ys b) xs ys (all_within v w xs ys a b) (all_within w v ys xs b a) a.is_list b.is_list

  same_shapes : (xs ys : List Broken) → BreaksShapes m k p xs → BreaksShapes m k p ys → xs ≡ ys
  same_shapes xs ys a b = one_shapes (denoted_in m k p) p xs ys a.are_shapes b.are_shapes

  -- a package has one list of lines at most
  one_lines : (headers : Headers) (xs ys : List LineData) → ArePackageLines m k p headers xs → ArePackageLines m k p headers ys → xs ≡ ys
  one_lines headers xs ys a b =
      let defs : a.defs ≡ b.defs = one_list_in_order _ a.defs b.defs a.are_defs b.are_defs in
      let uses : a.uses ≡ b.uses = one_list_in_order _ a.uses b.uses a.are_uses b.are_uses in
      let exprs : a.exprs ≡ b.exprs = one_list_in_order _ a.exprs b.exprs a.are_exprs b.are_exprs in
      a.all ∙ (λ i. defs i ++ (uses i ++ exprs i)) ∙ sym b.all

  same_lines : (v w : Headers) (xs ys : List LineData) → v ≡ w → ArePackageLines m k p v xs → ArePackageLines m k p w ys → xs ≡ ys
  same_lines v w xs ys same a b = one_lines v xs ys a (subst (λ (hs : Headers). ArePackageLines m k p hs ys) (sym same) b)

  -- a verdict and what is known behind it
  record Given : Type 0 where
    verdict : VerdictData
    known : Headers

  abbrev given : VerdictData → Headers → Given
  given x after = record { verdict = x; known = after }

  abbrev sound_by : Headers → List LineData → Given
  sound_by v lines = given (accepted lines (named_in (outline_of m) lines)) v

  -- of two verdicts, one rests on names that break rules, or on type declarations that do
  no_names : {X : Type 0} (b : Broken) (bs xs : List Broken) → IsListOf (broken_names (known_in m) k p) (b ∷ bs) → BreaksShapes m k p xs → X
  no_names b bs xs i j = absurd (no_list (broken_names (known_in m) k p) b bs j.sound_names i)

  no_shapes : {X : Type 0} (b : Broken) (bs : List Broken) → BreaksShapes m k p (b ∷ bs) → BreaksShapes m k p [] → X
  no_shapes b bs i j = absurd (let same = same_shapes (b ∷ bs) [] i j in cc same)

  one_verdict : (x y : VerdictData) (after later : Headers) → IsVerdict m k p before x after → IsVerdict m k p before y later → given x after ≡ given y later
  one_verdict x y after later (by_names b bs i) (by_names c cs j) = ap (λ list. given (refused (map (placed_by p) list)) before) (one_list (broken_names (known_in m) k p) (b ∷ bs) (c ∷ cs) i j)
  one_verdict x y after later (by_names b bs i) (by_shapes c cs j) = no_names b bs (c ∷ cs) i j
  one_verdict x y after later (by_names b bs i) (by_values w c cs j) = no_names b bs [] i j.sound_shapes
  one_verdict x y after later (by_names b bs i) (sound w ys j there) = no_names b bs [] i j.sound_shapes
  one_verdict x y after later (by_shapes b bs i) (by_names c cs j) = no_names c cs (b ∷ bs) j i
  one_verdict x y after later (by_shapes b bs i) (by_shapes c cs j) = ap (λ list. given (refused (map (placed_by p) list)) before) (same_shapes (b ∷ bs) (c ∷ cs) i j)
  one_verdict x y after later (by_shapes b bs i) (by_values w c cs j) = no_shapes b bs i j.sound_shapes
  one_verdict x y after later (by_shapes b bs i) (sound w ys j there) = no_shapes b bs i j.sound_shapes
  one_verdict x y after later (by_values v b bs i) (by_names c cs j) = no_names c cs [] j i.sound_shapes
  one_verdict x y after later (by_values v b bs i) (by_shapes c cs j) = no_shapes c cs j i.sound_shapes
  one_verdict x y after later (by_values v b bs i) (by_values w c cs j) =
      let headers : v ≡ w = same_headers v w (b ∷ bs) (c ∷ cs) i j in
      let lists : b ∷ bs ≡ c ∷ cs = same_values v w (b ∷ bs) (c ∷ cs) i j in
      λ n. given (refused (map (placed_by p) (lists n))) (headers n)
  one_verdict x y after later (by_values v b bs i) (sound w ys j there) = absurd (let same = same_values v w (b ∷ bs) [] i j in cc same)
  one_verdict x y after later (sound v xs i here) (by_names c cs j) = no_names c cs [] j i.sound_shapes
  one_verdict x y after later (sound v xs i here) (by_shapes c cs j) = no_shapes c cs j i.sound_shapes
  one_verdict x y after later (sound v xs i here) (by_values w c cs j) = absurd (let same = same_values v w [] (c ∷ cs) i j in cc same)
  one_verdict x y after later (sound v xs i here) (sound w ys j there) =
      let headers : v ≡ w = same_headers v w [] [] i j in
      let lines : xs ≡ ys = same_lines v w xs ys headers here there in
      λ n. sound_by (headers n) (lines n)

-- packages have one list of reports at most
one_list_of_reports : (m : ModuleData) (k : ℕ) (marks : List Bool) (before : Headers) (ps : List PackageData) (left right : List PackageReportData) → AreReports m k marks before ps left → AreReports m k marks before ps right → left ≡ right
one_list_of_reports m k marks before [] left right (all_told _ _ _) (all_told _ _ _) = refl
one_list_of_reports m k marks before (p ∷ ps) left right (skips _ _ _ _ _ xs e rest) (skips _ _ _ _ _ ys f other) =
    ap (λ rs. package_report p skipped ∷ rs) (one_list_of_reports m (k + 1) (marks ++ false ∷ []) before ps xs ys rest other)
one_list_of_reports m k marks before (p ∷ ps) left right (skips _ _ _ _ _ xs e rest) (checks _ _ _ later w _ _ ys f j other) = cc (e, f)
one_list_of_reports m k marks before (p ∷ ps) left right (checks _ _ _ after v _ _ xs e i rest) (skips _ _ _ _ _ ys f other) = cc (e, f)
one_list_of_reports m k marks before (p ∷ ps) left right (checks _ _ _ after v _ _ xs e i rest) (checks _ _ _ later w _ _ ys f j other) =
    let same = one_verdict m k p before v w after later i j in
    let verdicts : v ≡ w = ap (λ (g : Given m k p before). g.verdict) same in
    let there : AreReports m (k + 1) (marks ++ is_accepted v ∷ []) after ps ys = subst (λ (g : Given m k p before). AreReports m (k + 1) (marks ++ is_accepted g.verdict ∷ []) g.known ps ys) (sym same) other in
    ap (λ x. package_report p x ∷ xs) verdicts
    ∙ ap (λ rs. package_report p w ∷ rs) (one_list_of_reports m (k + 1) (marks ++ is_accepted v ∷ []) after ps xs ys rest there)

-- a module has one report at most
pub one_report : (m : ModuleData) (a b : ReportData) → ReportOf m a → ReportOf m b → a ≡ b
one_report m a b i j =
    let path : a.path ≡ b.path = i.path_is ∙ sym j.path_is in
    let version : a.version ≡ b.version = i.version_is ∙ sym j.version_is in
    let first : a.first ≡ b.first = i.first_is ∙ sym j.first_is in
    let packages : a.packages ≡ b.packages = one_list_of_reports m 0 [] no_headers m.packages a.packages b.packages i.packages j.packages in
    λ n. record { path = path n; version = version n; first = first n; packages = packages n }
