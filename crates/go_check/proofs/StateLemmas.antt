-- What is known as one more package of a module is checked.
use Rattle.std.proofs.Common.{◌≡◌, ℕ, zero, suc, ◌+◌, ◌<◌, Bool, true, false, ◌⊎◌, inl, inr, None, Some, List, [], ◌∷◌, ◌++◌, length, map, drop, refl, sym, ap, ◌∙◌, subst, arith}
use Rattle.std.specs.Prelude.{slice_get, unwrap_or}
use Rattle.std.proofs.Math.Path.{fun_ext}
use Rattle.std.proofs.lemmas.List.{append_assoc}
use Rattle.go_graph.specs.Graph.{is_marked}
use Rattle.go_module.specs.declared.module.Module.{Module}
use Rattle.go_module.specs.Modules.Module.{ModuleData, PackageData, module_view}
use Rattle.go_report.specs.Phases.{AreReports, IsVerdict, all_told, skips, checks, imports_accepted, is_accepted, no_headers, package_report}
use Rattle.go_report.specs.Report as report
use Rattle.go_report.specs.Report.{VerdictData, skipped}
use Rattle.go_judge.specs.Headers.{Headers}
use Rattle.go_judge.specs.HeadersView.{headers_view}
use Rattle.go_constructs.specs.Operators.Honest.{AreHonest}
use Rattle.go_decl.proofs.HonestHeaders.{honest_none}
use Rattle.go_check.specs.declared.module.State.{State}
use Rattle.go_check.specs.declared.names.Names.{Names}
use Rattle.go_check.specs.Packages.Names.{ImportsSound, sound_at}
use Rattle.go_check.specs.Packages.State.{StateData, IsFront, IsState}
use Rattle.go_check.proofs.NamesLemmas.{each_passes, one_longer}

-- what stands from a place on
drop_after : {X : Type 0} (xs : List X) (k : ℕ) (x : X) → slice_get xs k ≡ Some x → drop k xs ≡ x ∷ drop (suc k) xs
drop_after [] k x e = cc
drop_after (y ∷ ys) zero x e = ap (λ o. unwrap_or o y ∷ ys) e
drop_after (y ∷ ys) (suc k) x e = drop_after ys k x e

drop_at : {X : Type 0} (xs : List X) (k : ℕ) (x : X) → slice_get xs k ≡ Some x → drop k xs ≡ x ∷ drop (k + 1) xs
drop_at xs k x e = drop_after xs k x e ∙ ap (λ n. x ∷ drop n xs) (let next : suc k ≡ k + 1 = omega arith in next)

drop_all : {X : Type 0} (xs : List X) (k : ℕ) → k ≡ length xs → drop k xs ≡ []
drop_all [] zero e = refl
drop_all [] (suc k) e = refl
drop_all (x ∷ xs) zero e = absurd (omega (arith, e))
drop_all (x ∷ xs) (suc k) e = drop_all xs k (omega (arith, e))

no_rest : {X : Type 0} (xs : List X) → xs ++ [] ≡ xs
no_rest [] = refl
no_rest (x ∷ xs) = ap (λ ys. x ∷ ys) (no_rest xs)

marked_within : (marks : List Bool) (q : ℕ) → is_marked marks q ≡ true → q < length marks
marked_within [] zero e = cc
marked_within [] (suc q) e = cc
marked_within (b ∷ marks) zero e = omega arith
marked_within (b ∷ marks) (suc q) e = let rest = marked_within marks q e in omega (arith, rest)

-- which package is marked behind one more mark
marked_cases : (marks : List Bool) (b : Bool) (q : ℕ) → is_marked (marks ++ b ∷ []) q ≡ true → (is_marked marks q ≡ true) ⊎ ((q ≡ length marks) × (b ≡ true))
marked_cases [] b zero e = inr (refl, e)
marked_cases [] b (suc q) e = cc
marked_cases (x ∷ marks) b zero e = inl e
marked_cases (x ∷ marks) b (suc q) e = by_rest (marked_cases marks b q e)
  where
    by_rest : (is_marked marks q ≡ true) ⊎ ((q ≡ length marks) × (b ≡ true)) → (is_marked (x ∷ marks) (suc q) ≡ true) ⊎ ((suc q ≡ suc (length marks)) × (b ≡ true))
    by_rest (inl old) = inl old
    by_rest (inr new) = inr (ap suc new.0, new.1)

module _ («module» : Module) (names : Names) where
  abbrev m : ModuleData
  m = module_view «module»

  front_at_first : IsFront m 0 (record { marks = []; before = no_headers; reports = [] })
  front_at_first rest h = h

  no_mark : (q : ℕ) → is_marked [] q ≡ true → ⊥
  no_mark zero e = cc
  no_mark (suc q) e = cc

  -- before the first package nothing is known
  pub first_state : (s : State) → s.marks.items ≡ [] → ((d : ℕ) → headers_view s.book.judge.headers d ≡ None) → ((d : ℕ) → headers_view s.known d ≡ None) → s.reports.items ≡ []
      → s.book.judge.«module».now ≡ «module» → s.book.judge.scopes.now ≡ names.scopes.items → IsState «module» names 0 s
  first_state s marks vacant none reports over scopes = record {
    marked = ap length marks;
    accepted_sound = λ q e. absurd (no_mark q (ap (λ l. is_marked l q) (sym marks) ∙ e));
    front =
        let before : headers_view s.book.judge.headers ≡ no_headers = fun_ext vacant in
        subst (λ ms. IsFront m 0 (record { marks = ms; before = headers_view s.book.judge.headers; reports = map report.package_view s.reports.items })) (sym marks)
        (subst (λ hs. IsFront m 0 (record { marks = []; before = hs; reports = map report.package_view s.reports.items })) (sym before)
        (subst (λ rs. IsFront m 0 (record { marks = []; before = no_headers; reports = map report.package_view rs })) (sym reports) front_at_first));
    over = over;
    scopes = scopes;
    same = fun_ext (λ d. none d ∙ sym (vacant d));
    honest = honest_none (headers_view s.book.judge.headers) vacant;
  }

  -- behind the last package all reports are told
  pub all_reports : (k : ℕ) (s : State) → IsState «module» names k s → k ≡ length m.packages → AreReports m 0 [] no_headers m.packages (map report.package_view s.reports.items)
  all_reports k s state last =
      let told : AreReports m k s.marks.items (headers_view s.book.judge.headers) (drop k m.packages) [] = subst (λ ps. AreReports m k s.marks.items (headers_view s.book.judge.headers) ps []) (sym (drop_all m.packages k last)) (all_told k s.marks.items (headers_view s.book.judge.headers)) in
      subst (AreReports m 0 [] no_headers m.packages) (no_rest (map report.package_view s.reports.items)) (state.front [] told)

  -- what a package imports is sound where it is accepted
  pub imports_sound : (k : ℕ) (p : PackageData) (s : State) → IsState «module» names k s → imports_accepted s.marks.items p ≡ true → ImportsSound names.verdicts.items k p
  imports_sound k p s state e = λ i member.
      let marked = each_passes (is_marked s.marks.items) p.imports e i member in
      let lt = marked_within s.marks.items i marked in
      (omega (arith, lt, state.marked), state.accepted_sound i marked)

module _ (m : ModuleData) (k : ℕ) (p : PackageData) (at : slice_get m.packages k ≡ Some p) where
  -- a package that is skipped
  pub front_skips : (s : StateData) → IsFront m k s → imports_accepted s.marks p ≡ false → IsFront m (k + 1) (record { marks = s.marks ++ false ∷ []; before = s.before; reports = s.reports ++ package_report p skipped ∷ [] })
  front_skips s front e rest h =
      let here : AreReports m k s.marks s.before (drop k m.packages) (package_report p skipped ∷ rest) = subst (λ ps. AreReports m k s.marks s.before ps (package_report p skipped ∷ rest)) (sym (drop_at m.packages k p at)) (skips k s.marks s.before p (drop (k + 1) m.packages) rest e h) in
      subst (AreReports m 0 [] no_headers m.packages) (sym (append_assoc s.reports (package_report p skipped ∷ []) rest)) (front (package_report p skipped ∷ rest) here)

  -- one that is checked
  pub front_checks : (s : StateData) (verdict : VerdictData) (after : Headers) → IsFront m k s → imports_accepted s.marks p ≡ true → IsVerdict m k p s.before verdict after → IsFront m (k + 1) (record { marks = s.marks ++ is_accepted verdict ∷ []; before = after; reports = s.reports ++ package_report p verdict ∷ [] })
  front_checks s verdict after front e is rest h =
      let here : AreReports m k s.marks s.before (drop k m.packages) (package_report p verdict ∷ rest) = subst (λ ps. AreReports m k s.marks s.before ps (package_report p verdict ∷ rest)) (sym (drop_at m.packages k p at)) (checks k s.marks s.before after verdict p (drop (k + 1) m.packages) rest e is h) in
      subst (AreReports m 0 [] no_headers m.packages) (sym (append_assoc s.reports (package_report p verdict ∷ []) rest)) (front (package_report p verdict ∷ rest) here)

module _ («module» : Module) (names : Names) (k : ℕ) (p : PackageData) (old new : State) (verdict : VerdictData) (after : Headers) where
  -- one more package is checked
  pub next_state : IsState «module» names k old
      → new.marks.items ≡ old.marks.items ++ is_accepted verdict ∷ []
      → headers_view new.book.judge.headers ≡ after
      → map report.package_view new.reports.items ≡ map report.package_view old.reports.items ++ package_report p verdict ∷ []
      → (is_accepted verdict ≡ true → sound_at names.verdicts.items k ≡ true)
      → IsFront (module_view «module») (k + 1) (record { marks = old.marks.items ++ is_accepted verdict ∷ []; before = after; reports = map report.package_view old.reports.items ++ package_report p verdict ∷ [] })
      → new.book.judge.«module».now ≡ «module» → new.book.judge.scopes.now ≡ names.scopes.items → headers_view new.known ≡ headers_view new.book.judge.headers
      → AreHonest (headers_view new.book.judge.headers)
      → IsState «module» names (k + 1) new
  next_state state marks before reports sound front over scopes same honest = record {
    marked = ap length marks ∙ one_longer old.marks.items (is_accepted verdict) ∙ ap (λ n. n + 1) state.marked;
    accepted_sound = λ q e. by_mark q (marked_cases old.marks.items (is_accepted verdict) q (ap (λ l. is_marked l q) (sym marks) ∙ e));
    front =
        subst (λ ms. IsFront (module_view «module») (k + 1) (record { marks = ms; before = headers_view new.book.judge.headers; reports = map report.package_view new.reports.items })) (sym marks)
        (subst (λ bs. IsFront (module_view «module») (k + 1) (record { marks = old.marks.items ++ is_accepted verdict ∷ []; before = bs; reports = map report.package_view new.reports.items })) (sym before)
        (subst (λ rs. IsFront (module_view «module») (k + 1) (record { marks = old.marks.items ++ is_accepted verdict ∷ []; before = after; reports = rs })) (sym reports) front));
    over = over;
    scopes = scopes;
    same = same;
    honest = honest;
  }
    where
      by_mark : (q : ℕ) → (is_marked old.marks.items q ≡ true) ⊎ ((q ≡ length old.marks.items) × (is_accepted verdict ≡ true)) → sound_at names.verdicts.items q ≡ true
      by_mark q (inl there) = state.accepted_sound q there
      by_mark q (inr here) = ap (sound_at names.verdicts.items) (here.0 ∙ state.marked) ∙ sound here.1
