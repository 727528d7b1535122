-- What is known in the states that the check of a module goes through; so each package that it accepts is complete, and
-- it comes so to each that its report calls accepted.
use Rattle.std.proofs.Common.{◌≡◌, ℕ, zero, suc, ◌+◌, Bool, true, false, Some, None, List, [], ◌∷◌, ◌++◌, refl, ap, ◌∙◌, subst, arith}
use Rattle.std.specs.Prelude.{slice_get}
use Rattle.std.proofs.lemmas.Option.{none-some, same_Some}
use Rattle.go_base.specs.declared.rule.Broken.{Broken}
use Rattle.go_module.specs.Modules.Module.{ModuleData, PackageData}
use Rattle.go_module.specs.Modules.ModuleLaws.{ImportsStandBefore}
use Rattle.go_module.specs.Names.Declarations.{declarations_of}
use Rattle.go_module.specs.Names.Imports.{known_in}
use Rattle.go_module.specs.Names.Rules.BrokenNames.{broken_names}
use Rattle.go_mod.specs.Folders.{Folder}
use Rattle.go_load.specs.Loading.{IsModule}
use Rattle.go_load.proofs.ModuleLawLemmas.{stand_before}
use Rattle.go_judge.specs.Headers.{Headers}
use Rattle.go_report.specs.Phases.{AreReports, BreaksValues, IsVerdict, ReportOf, all_told, by_names, by_shapes, by_values, checks as checks_report, imports_accepted, is_accepted, package_report, skips as skips_report, sound}
use Rattle.go_report.specs.Report.{LineData, NamedData, PackageReportData, ReportData, VerdictData, accepted, refused, skipped}
use Rattle.go_model.specs.Naming.{names_in}
use Rattle.go_judge.specs.Quests.{IsPart}
use Rattle.go_laws.specs.BuiltTrees.{PartsAreBuilt}
use Rattle.go_laws.specs.Complete.{IsAcceptedAt, IsComplete, IsReached, checks, first, parts_in, skips}
use Rattle.go_laws.specs.NodeNumbers.{NodeNumbersAscend}
use Rattle.go_laws.proofs.Asked.{AreAsked}
use Rattle.go_laws.proofs.BuiltLemmas.{built_asked}
use Rattle.go_laws.proofs.BuiltModuleLemmas.{parts_are_built, specs_give_headers}
use Rattle.go_laws.proofs.CompleteLemmas.{complete_where_asked}
use Rattle.go_laws.proofs.Declaring.{DeclareHeaders}
use Rattle.go_laws.proofs.DenotingLemmas.{names_denote}
use Rattle.go_laws.proofs.GoodHeaderLemmas.{headers_good}
use Rattle.go_laws.proofs.KnownLemmas.{IsKept, IsKnown, IsOwn, imports_kept, known_more, new_headers, not_accepted, own_cause, own_good, same_headers}
use Rattle.go_laws.proofs.MeantLemmas.{meant_good}
use Rattle.go_laws.proofs.NodeNumberLemmas.{node_numbers_ascend}

module _ (m : ModuleData) where
  module _ (ascend : NodeNumbersAscend m) (stand : ImportsStandBefore m) (give : DeclareHeaders m) (built : PartsAreBuilt m) where
    all_asked : (k : ℕ) (p : PackageData) → slice_get m.packages k ≡ Some p → broken_names (known_in m) k p ≡ [] → AreAsked (names_in m k p) (parts_in p)
    all_asked k p at names t among s asked =
        built_asked (names_in m k p) t (built k p at t among) s
        (names_denote m k p give ascend at stand names (built k p at) t among s asked)
        asked

    -- an accepted package is complete
    complete_at : (k : ℕ) (marks : List Bool) (p : PackageData) (before after : Headers) (lines : List LineData) (named : List NamedData)
        → IsKnown m k marks before → slice_get m.packages k ≡ Some p → imports_accepted marks p ≡ true → IsVerdict m k p before (accepted lines named) after
        → broken_names (known_in m) k p ≡ [] → IsComplete (names_in m k p) after p
    complete_at k marks p before after lines named is at imports verdict names =
        complete_where_asked m k p before after lines named verdict (give k p at)
        (IsOwn m marks p) (own_cause m k marks p before is) (meant_good m k p (IsKept m marks) (imports_kept m marks p imports)) (own_good m ascend k marks p before is at)
        (all_asked k p at names)

    -- the headers behind a package whose names are sound
    part_of : (k : ℕ) (p : PackageData) (before headers : Headers) (list : List Broken) → BreaksValues m k p before headers list → IsPart before headers
    part_of k p before headers list breaks d h e = (breaks.has_headers.known d h).1 (record { list = []; justified = tt; has = e })

    known_checked : (k : ℕ) (marks : List Bool) (p : PackageData) (before after : Headers) (verdict : VerdictData)
        → IsKnown m k marks before → slice_get m.packages k ≡ Some p → imports_accepted marks p ≡ true → IsVerdict m k p before verdict after
        → IsKnown m (k + 1) (marks ++ is_accepted verdict ∷ []) after
    known_checked k marks p before after verdict is at imports (by_names b bs list) = same_headers m k marks p before is at
    known_checked k marks p before after verdict is at imports (by_shapes b bs list) = same_headers m k marks p before is at
    known_checked k marks p before after verdict is at imports (by_values headers b bs breaks) =
        not_accepted m k marks p before headers is at (part_of k p before headers (b ∷ bs) breaks) (new_headers p (names_in m k p) before headers breaks.cyclic breaks.has_headers)
    known_checked k marks p before after verdict is at imports (sound headers lines breaks told) =
        let complete = complete_at k marks p before headers lines _ is at imports (sound headers lines breaks told) breaks.sound_shapes.sound_names in
        let naming = names_in m k p in
        let means = meant_good m k p (IsKept m marks) (imports_kept m marks p imports) in
        let good = headers_good naming (IsOwn m marks p) means before (own_good m ascend k marks p before is at) (declarations_of p) headers breaks.cyclic breaks.has_headers in
        known_more m k marks p before headers is at (part_of k p before headers [] breaks) (new_headers p naming before headers breaks.cyclic breaks.has_headers) good complete.declared

    known_reached : {k : ℕ} {marks : List Bool} {before : Headers} → IsReached m k marks before → IsKnown m k marks before
    known_reached first = record {
      many = refl;
      declared = λ i q marked at. absurd (let never : false ≡ true = marked in cc);
      named = λ n h kept e. absurd (none-some h e);
      stand = λ n h e. absurd (none-some h e);
    }
    known_reached (skips k marks before p reached at imports) = same_headers m k marks p before (known_reached reached) at
    known_reached (checks k marks before after verdict p reached at imports is) = known_checked k marks p before after verdict (known_reached reached) at imports is

sound_names : (m : ModuleData) (k : ℕ) (p : PackageData) (before after : Headers) (lines : List LineData) (named : List NamedData) → IsVerdict m k p before (accepted lines named) after → broken_names (known_in m) k p ≡ []
sound_names m k p before after lines named (sound _ _ breaks _) = breaks.sound_shapes.sound_names

pub accepted_complete : (own stubs : Folder) (m : ModuleData) → IsModule own stubs m
    → (k : ℕ) (marks : List Bool) (p : PackageData) (before after : Headers) (lines : List LineData) (named : List NamedData)
    → IsReached m k marks before → slice_get m.packages k ≡ Some p → imports_accepted marks p ≡ true
    → IsVerdict m k p before (accepted lines named) after
    → IsComplete (names_in m k p) after p
accepted_complete own stubs m is k marks p before after lines named reached at imports verdict =
    let ascend = node_numbers_ascend own stubs m is in
    let stand = stand_before own stubs m is in
    let give = specs_give_headers own stubs m is in
    let built = parts_are_built own stubs m is in
    complete_at m ascend stand give built k marks p before after lines named (known_reached m ascend stand give built reached) at imports verdict (sound_names m k p before after lines named verdict)

-- REPORTS

module _ (m : ModuleData) where
  accepted_at : (k : ℕ) (marks : List Bool) (p : PackageData) (before after : Headers) (verdict : VerdictData)
      → IsReached m k marks before → imports_accepted marks p ≡ true → IsVerdict m k p before verdict after → is_accepted verdict ≡ true → IsAcceptedAt m k p verdict
  accepted_at k marks p before after (accepted lines named) reached imports is holds = record {
    marks = marks;
    before = before;
    after = after;
    lines = lines;
    named = named;
    is = refl;
    reached = reached;
    imports = imports;
    verdict_is = is;
  }
  accepted_at k marks p before after (refused list) reached imports is holds = absurd (let never : false ≡ true = holds in cc)
  accepted_at k marks p before after skipped reached imports is holds = absurd (let never : false ≡ true = holds in cc)

  same_report : (k : ℕ) (p q : PackageData) (verdict : VerdictData) (r : PackageReportData) → p ≡ q → package_report p verdict ≡ r → (is_accepted verdict ≡ true → IsAcceptedAt m k p verdict) → is_accepted r.verdict ≡ true → IsAcceptedAt m k q r.verdict
  same_report k p q verdict r same told go holds =
      let is : verdict ≡ r.verdict = ap (λ (x : PackageReportData). x.verdict) told in
      subst (λ (x : PackageData). IsAcceptedAt m k x r.verdict) same (subst (IsAcceptedAt m k p) is (go (ap is_accepted is ∙ holds)))

  -- these packages stand from the place k on
  abbrev StandFrom : ℕ → List PackageData → Type 0
  StandFrom k ps = (j : ℕ) (p : PackageData) → slice_get ps j ≡ Some p → slice_get m.packages (k + j) ≡ Some p

  next_stand : (k : ℕ) (p : PackageData) (ps : List PackageData) → StandFrom k (p ∷ ps) → StandFrom (k + 1) ps
  next_stand k p ps stand j q at = let place : (k + 1) + j ≡ k + suc j = omega arith in ap (slice_get m.packages) place ∙ stand (suc j) q at

  stands : (k : ℕ) (p : PackageData) (ps : List PackageData) → StandFrom k (p ∷ ps) → slice_get m.packages k ≡ Some p
  stands k p ps stand = let place : k ≡ k + 0 = omega arith in ap (slice_get m.packages) place ∙ stand 0 p refl

  reports_reached : {k : ℕ} {marks : List Bool} {before : Headers} {ps : List PackageData} {rs : List PackageReportData}
      → AreReports m k marks before ps rs → IsReached m k marks before → StandFrom k ps
      → (j : ℕ) (q : PackageData) (r : PackageReportData) → slice_get ps j ≡ Some q → slice_get rs j ≡ Some r → is_accepted r.verdict ≡ true → IsAcceptedAt m (k + j) q r.verdict
  reports_reached (all_told k marks before) reached stand j q r at told holds = absurd (let never : None ≡ Some q = at in cc)
  reports_reached (skips_report k marks before p ps rs imports rest) reached stand zero q r at told holds =
      let is : skipped ≡ r.verdict = ap (λ (x : PackageReportData). x.verdict) (same_Some (package_report p skipped) r told) in
      absurd (let never : false ≡ true = ap is_accepted is ∙ holds in cc)
  reports_reached (skips_report k marks before p ps rs imports rest) reached stand (suc j) q r at told holds =
      let place : (k + 1) + j ≡ k + suc j = omega arith in
      subst (λ (n : ℕ). IsAcceptedAt m n q r.verdict) place
      (reports_reached rest (skips k marks before p reached (stands k p ps stand) imports) (next_stand k p ps stand) j q r at told holds)
  reports_reached (checks_report k marks before after verdict p ps rs imports is rest) reached stand zero q r at told holds =
      let place : k ≡ k + 0 = omega arith in
      subst (λ (n : ℕ). IsAcceptedAt m n q r.verdict) place
      (same_report k p q verdict r (same_Some p q at) (same_Some (package_report p verdict) r told) (accepted_at k marks p before after verdict reached imports is) holds)
  reports_reached (checks_report k marks before after verdict p ps rs imports is rest) reached stand (suc j) q r at told holds =
      let place : (k + 1) + j ≡ k + suc j = omega arith in
      subst (λ (n : ℕ). IsAcceptedAt m n q r.verdict) place
      (reports_reached rest (checks k marks before after verdict p reached (stands k p ps stand) imports is) (next_stand k p ps stand) j q r at told holds)

pub reports_are_reached : (m : ModuleData) (report : ReportData) → ReportOf m report
    → (k : ℕ) (p : PackageData) (r : PackageReportData) → slice_get m.packages k ≡ Some p → slice_get report.packages k ≡ Some r
    → is_accepted r.verdict ≡ true → IsAcceptedAt m k p r.verdict
reports_are_reached m report is k p r at told holds =
    let place : 0 + k ≡ k = omega arith in
    subst (λ (n : ℕ). IsAcceptedAt m n p r.verdict) place
    (reports_reached m is.packages first (λ j q there. ap (slice_get m.packages) (let same : 0 + j ≡ j = omega arith in same) ∙ there) k p r at told holds)
