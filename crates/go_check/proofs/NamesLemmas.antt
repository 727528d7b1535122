-- What the names of packages denote or break, as one more package is asked.
use Rattle.std.proofs.Common.{◌≡◌, ℕ, zero, suc, ◌+◌, ◌<◌, Bool, true, false, ◌&&◌, Option, Some, None, List, [], ◌∷◌, ◌++◌, length, get_or, ◌⊎◌, inl, inr, refl, sym, ap, ◌∙◌, subst, arith}
use Rattle.std.specs.Prelude.{slice_get}
use Rattle.std.specs.List.{Contains, list_all}
use Rattle.std.specs.Option.{option_map_or}
use Rattle.go_module.specs.declared.scopes.Scopes.{Scopes}
use Rattle.go_module.specs.Modules.Module.{ModuleData, PackageData}
use Rattle.go_module.specs.Names.Tables.{IsScopesOf}
use Rattle.go_module.proofs.MemberLemmas.{cons_cases}
use Rattle.go_scope.specs.Collecting.{AreBefore, IsCollected}
use Rattle.go_check.specs.declared.names.NamesVerdict.{NamesVerdict}
use Rattle.go_check.specs.declared.names.NamesVerdict.TheVariants.{Unasked}
use Rattle.go_check.specs.declared.names.Names.{Names}
use Rattle.go_check.specs.Packages.Names.{AddsOne, AreNames, ImportsSound, IsBrokenAt, is_sound, sound_at}

-- entries of a list that is one longer

pub get_front : {X : Type 0} (xs : List X) (x y : X) (q : ℕ) → slice_get xs q ≡ Some y → slice_get (xs ++ x ∷ []) q ≡ Some y
get_front [] x y q e = cc
get_front (z ∷ xs) x y zero e = e
get_front (z ∷ xs) x y (suc q) e = get_front xs x y q e

pub get_last : {X : Type 0} (xs : List X) (x : X) → slice_get (xs ++ x ∷ []) (length xs) ≡ Some x
get_last [] x = refl
get_last (y ∷ xs) x = get_last xs x

pub get_cases : {X : Type 0} (xs : List X) (x y : X) (q : ℕ) → slice_get (xs ++ x ∷ []) q ≡ Some y → (slice_get xs q ≡ Some y) ⊎ ((q ≡ length xs) × (x ≡ y))
get_cases [] x y zero e = inr (refl, cc)
get_cases [] x y (suc q) e = cc
get_cases (z ∷ xs) x y zero e = inl e
get_cases (z ∷ xs) x y (suc q) e = by_rest (get_cases xs x y q e)
  where
    by_rest : (slice_get xs q ≡ Some y) ⊎ ((q ≡ length xs) × (x ≡ y)) → (slice_get (z ∷ xs) (suc q) ≡ Some y) ⊎ ((suc q ≡ suc (length xs)) × (x ≡ y))
    by_rest (inl old) = inl old
    by_rest (inr new) = inr (ap suc new.0, new.1)

pub get_before : {X : Type 0} (xs : List X) (x : X) (q : ℕ) → q < length xs → slice_get (xs ++ x ∷ []) q ≡ slice_get xs q
get_before [] x q lt = absurd (omega (arith, lt))
get_before (y ∷ xs) x zero lt = refl
get_before (y ∷ xs) x (suc q) lt = get_before xs x q (omega (arith, lt))

pub get_within : {X : Type 0} (xs : List X) (y : X) (q : ℕ) → slice_get xs q ≡ Some y → q < length xs
get_within [] y q e = cc
get_within (x ∷ xs) y zero e = omega arith
get_within (x ∷ xs) y (suc q) e = let rest = get_within xs y q e in omega (arith, rest)

pub get_at : {X : Type 0} (xs : List X) (q : ℕ) (x : X) → q < length xs → x ≡ get_or xs q x → slice_get xs q ≡ Some x
get_at [] q x lt e = absurd (omega (arith, lt))
get_at (y ∷ xs) zero x lt e = ap Some (sym e)
get_at (y ∷ xs) (suc q) x lt e = get_at xs q x (omega (arith, lt)) e

pub one_longer : {X : Type 0} (xs : List X) (x : X) → length (xs ++ x ∷ []) ≡ length xs + 1
one_longer [] x = refl
one_longer (y ∷ xs) x = let rest = one_longer xs x in omega (arith, rest)

-- a place where names are sound has a verdict that says so
record HasSound (o : Option NamesVerdict) : Type 0 where
  verdict : NamesVerdict
  is : o ≡ Some verdict
  sound : is_sound verdict ≡ true

sound_some : (o : Option NamesVerdict) → option_map_or is_sound o false ≡ true → HasSound o
sound_some None e = cc
sound_some (Some v) e = record { verdict = v; is = refl; sound = e }

both_true : (a b : Bool) → (a && b) ≡ true → (a ≡ true) × (b ≡ true)
both_true true b e = (refl, e)
both_true false b e = cc

pub each_passes : (p : ℕ → Bool) (xs : List ℕ) → list_all p xs ≡ true → (x : ℕ) → Contains xs x → p x ≡ true
each_passes p [] e x here = absurd (let lt = here.1 in omega (arith, lt))
each_passes p (y ∷ xs) e x here = by_place (both_true (p y) (list_all p xs) e) (cons_cases y xs x here) (λ rest. each_passes p xs rest x)
  where
    by_place : (p y ≡ true) × (list_all p xs ≡ true) → (y ≡ x) ⊎ Contains xs x → (list_all p xs ≡ true → Contains xs x → p x ≡ true) → p x ≡ true
    by_place both (inl same) go_on = ap p (sym same) ∙ both.0
    by_place both (inr there) go_on = go_on both.1 there

not_both : (a : Bool) → a ≡ true → a ≡ false → ⊥
not_both true e f = cc
not_both false e f = cc

all_pass : (p : ℕ → Bool) (xs : List ℕ) → ((x : ℕ) → Contains xs x → p x ≡ true) → list_all p xs ≡ true
all_pass p [] e = refl
all_pass p (y ∷ xs) e = both_and (p y) (list_all p xs) (e y (0, omega arith, refl)) (all_pass p xs (λ x here. e x (suc here.0, (let lt = here.1 in omega (arith, lt)), here.2)))
  where
    both_and : (a b : Bool) → a ≡ true → b ≡ true → (a && b) ≡ true
    both_and true b e f = f
    both_and false b e f = cc

-- what is collected is so behind one more
collected_more : (m : ModuleData) (q : ℕ) (old new : List Scopes) → AddsOne old new → IsCollected m q old → IsCollected m q new
collected_more m q old new more is = record {
  scopes = is.scopes;
  at = ap (λ l. slice_get l q) more.added ∙ get_front old more.one is.scopes q is.at;
  is = is.is;
}

-- those of the package at a place, put behind those before
pub collected_at : (m : ModuleData) (k : ℕ) (old new : List Scopes) (scopes : Scopes) → new ≡ old ++ scopes ∷ [] → length old ≡ k → IsScopesOf m k scopes → IsCollected m k new
collected_at m k old new scopes added same is = record {
  scopes = scopes;
  at = ap (λ l. slice_get l k) added ∙ ap (slice_get (old ++ scopes ∷ [])) (sym same) ∙ get_last old scopes;
  is = is;
}

module _ (m : ModuleData) (k : ℕ) (old new : Names) (verdict : NamesVerdict) (before : AreNames m k old) (verdicts : new.verdicts.items ≡ old.verdicts.items ++ verdict ∷ []) (scopes : AddsOne old.scopes.items new.scopes.items) where
  cases_at : (q : ℕ) (w : NamesVerdict) → slice_get new.verdicts.items q ≡ Some w → (slice_get old.verdicts.items q ≡ Some w) ⊎ ((q ≡ k) × (verdict ≡ w))
  cases_at q w e = by_cases (get_cases old.verdicts.items verdict w q (sym (ap (λ l. slice_get l q) verdicts) ∙ e))
    where
      by_cases : (slice_get old.verdicts.items q ≡ Some w) ⊎ ((q ≡ length old.verdicts.items) × (verdict ≡ w)) → (slice_get old.verdicts.items q ≡ Some w) ⊎ ((q ≡ k) × (verdict ≡ w))
      by_cases (inl there) = inl there
      by_cases (inr here) = inr (here.0 ∙ before.verdicts_length, here.1)

  still_sound : (i : ℕ) → i < k → sound_at new.verdicts.items i ≡ true → sound_at old.verdicts.items i ≡ true
  still_sound i lt e =
      let at = get_before old.verdicts.items verdict i (omega (arith, lt, before.verdicts_length)) in
      ap (λ o. option_map_or is_sound o false) (sym at ∙ sym (ap (λ l. slice_get l i) verdicts)) ∙ e

  imports_before : (q : ℕ) (p : PackageData) → (q < k) ⊎ (q ≡ k) → ImportsSound new.verdicts.items q p → ImportsSound old.verdicts.items q p
  imports_before q p (inl lt) are i member = let both = are i member in (both.0, still_sound i (let less = both.0 in omega (arith, less, lt)) both.1)
  imports_before q p (inr same) are i member = let both = are i member in (both.0, still_sound i (let less = both.0 in omega (arith, less, same)) both.1)

  -- one more package is asked
  pub one_more : (is_sound verdict ≡ true → IsCollected m k new.scopes.items) → IsBrokenAt m k verdict
      → ((p : PackageData) → verdict ≡ Unasked → slice_get m.packages k ≡ Some p → ImportsSound old.verdicts.items k p → ⊥)
      → AreNames m (k + 1) new
  one_more collected broken unasked = record {
    scopes_length = ap length scopes.added ∙ one_longer old.scopes.items scopes.one ∙ ap (λ n. n + 1) before.scopes_length;
    verdicts_length = ap length verdicts ∙ one_longer old.verdicts.items verdict ∙ ap (λ n. n + 1) before.verdicts_length;
    sound = λ q e. let has = sound_some (slice_get new.verdicts.items q) e in sound_at_one q has (cases_at q has.verdict has.is);
    broken = λ q w e. broken_at_one q w (cases_at q w e);
    unasked = λ q p e at are. unasked_at_one q p e at are (cases_at q Unasked e);
  }
    where
      sound_at_one : (q : ℕ) (has : HasSound (slice_get new.verdicts.items q)) → (slice_get old.verdicts.items q ≡ Some has.verdict) ⊎ ((q ≡ k) × (verdict ≡ has.verdict)) → IsCollected m q new.scopes.items
      sound_at_one q has (inl there) = collected_more m q old.scopes.items new.scopes.items scopes (before.sound q (ap (λ o. option_map_or is_sound o false) there ∙ has.sound))
      sound_at_one q has (inr here) = subst (λ n. IsCollected m n new.scopes.items) (sym here.0) (collected (ap is_sound here.1 ∙ has.sound))

      broken_at_one : (q : ℕ) (w : NamesVerdict) → (slice_get old.verdicts.items q ≡ Some w) ⊎ ((q ≡ k) × (verdict ≡ w)) → IsBrokenAt m q w
      broken_at_one q w (inl there) = before.broken q w there
      broken_at_one q w (inr here) = subst (λ n. IsBrokenAt m n w) (sym here.0) (subst (IsBrokenAt m k) here.1 broken)

      unasked_at_one : (q : ℕ) (p : PackageData) → slice_get new.verdicts.items q ≡ Some Unasked → slice_get m.packages q ≡ Some p → ImportsSound new.verdicts.items q p → (slice_get old.verdicts.items q ≡ Some Unasked) ⊎ ((q ≡ k) × (verdict ≡ Unasked)) → ⊥
      unasked_at_one q p e at are (inl there) =
          let lt = get_within old.verdicts.items Unasked q there in
          before.unasked q p there at (imports_before q p (inl (omega (arith, lt, before.verdicts_length))) are)
      unasked_at_one q p e at are (inr here) =
          unasked p here.1 (ap (slice_get m.packages) (sym here.0) ∙ at)
          (subst (λ n. ImportsSound old.verdicts.items n p) here.0 (imports_before q p (inr here.0) are))

-- the package that imports only packages with sound names may be asked
pub are_before : (m : ModuleData) (k : ℕ) (p : PackageData) (names : Names) → AreNames m k names → k < length m.packages → slice_get m.packages k ≡ Some p → list_all (sound_at names.verdicts.items) p.imports ≡ true → AreBefore m k names.scopes.items
are_before m k p names are within at all = record {
  within = within;
  imported = λ q there i member.
      let same : q ≡ p = cc (at, there) in
      are.sound i (each_passes (sound_at names.verdicts.items) p.imports all i (subst (λ (r : PackageData). Contains r.imports i) same member));
}

-- one that imports another may not
pub imports_another : (m : ModuleData) (k : ℕ) (p : PackageData) (verdicts : List NamesVerdict) → slice_get m.packages k ≡ Some p → list_all (sound_at verdicts) p.imports ≡ false → (q : PackageData) → slice_get m.packages k ≡ Some q → ImportsSound verdicts k q → ⊥
imports_another m k p verdicts at other q there are =
    let same : q ≡ p = cc (at, there) in
    not_both (list_all (sound_at verdicts) p.imports) (all_pass (sound_at verdicts) p.imports (λ i member. (are i (subst (λ (r : PackageData). Contains r.imports i) (sym same) member)).1)) other

-- before the first package
pub no_names : (m : ModuleData) (names : Names) → names.scopes.items ≡ [] → names.verdicts.items ≡ [] → AreNames m 0 names
no_names m names scopes verdicts = record {
  scopes_length = ap length scopes;
  verdicts_length = ap length verdicts;
  sound = λ q e. let none : slice_get names.verdicts.items q ≡ None = nothing names.verdicts.items q verdicts in absurd (no_sound (sym (ap (λ o. option_map_or is_sound o false) none) ∙ e));
  broken = λ q w e. let none : slice_get names.verdicts.items q ≡ None = nothing names.verdicts.items q verdicts in cc;
  unasked = λ q p e at are. let none : slice_get names.verdicts.items q ≡ None = nothing names.verdicts.items q verdicts in no_some (sym none ∙ e);
}
  where
    nothing : {X : Type 0} (xs : List X) (q : ℕ) → xs ≡ [] → slice_get xs q ≡ None
    nothing [] zero e = refl
    nothing [] (suc q) e = refl
    nothing (x ∷ xs) q e = cc

    no_sound : false ≡ true → ⊥
    no_sound e = cc

    no_some : {X : Type 0} {x : X} → None ≡ Some x → ⊥
    no_some e = cc
