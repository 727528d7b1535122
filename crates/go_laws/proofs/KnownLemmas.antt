-- What is known in the states that the check of a module goes through: a header of each declaration of an accepted package, which names
-- what accepted packages declare; and each header is that of a declaration of a package before the place.
use Rattle.std.proofs.Common.{◌≡◌, ◌≢◌, ℕ, zero, suc, ◌+◌, ◌<◌, Bool, true, false, Option, Some, None, List, [], ◌∷◌, ◌++◌, ◌⊎◌, inl, inr, length, Contains, refl, sym, ap, ◌∙◌, subst, arith}
use Rattle.std.specs.Prelude.{IsSome, is_some, slice_get}
use Rattle.std.proofs.lemmas.List.Elements.{All-contains}
use Rattle.std.proofs.lemmas.List.Sums.{AllPass-from_list_all}
use Rattle.std.proofs.lemmas.Option.{same_Some}
use Rattle.go_graph.specs.Graph.{is_marked}
use Rattle.go_module.specs.Modules.Module.{ModuleData, PackageData}
use Rattle.go_module.specs.Names.Declarations.{Declaration, declarations_of, number_of}
use Rattle.go_judge.specs.Headers.{Headers}
use Rattle.go_judge.specs.Naming.{Naming}
use Rattle.go_judge.specs.Quests.{IsPart}
use Rattle.go_judge.specs.Records.{HeaderData}
use Rattle.go_report.specs.Phases.{HasHeaders, imports_accepted}
use Rattle.go_values.specs.Declared.{declared_as}
use Rattle.go_values.specs.Headers.{Follows}
use Rattle.go_values.proofs.HeaderLemmas.{stays}
use Rattle.go_same_laws.specs.Named.{AreGood, IsGoodHeader}
use Rattle.go_laws.specs.NodeNumbers.{NodeNumbersAscend, numbers_in_files}
use Rattle.go_laws.proofs.DenotedLemmas.{declared_by_number}
use Rattle.go_laws.proofs.Denoting.{ImportsAreGood}
use Rattle.go_laws.proofs.FollowLemmas.{declared_names}
use Rattle.go_laws.proofs.GoodHeaderLemmas.{header_so}
use Rattle.go_laws.proofs.MeantLemmas.{HasDeclaration}
use Rattle.go_laws.proofs.NameNodeLemmas.{name_there}

-- MARKS

-- one more mark
marked_more : (marks : List Bool) (mark : Bool) (i : ℕ) → is_marked (marks ++ mark ∷ []) i ≡ true → (is_marked marks i ≡ true) ⊎ ((i ≡ length marks) × (mark ≡ true))
marked_more [] mark zero is = inr (refl, is)
marked_more [] mark (suc i) is = absurd (let never : false ≡ true = is in cc)
marked_more (m ∷ marks) mark zero is = inl is
marked_more (m ∷ marks) mark (suc i) is = by_cases (marked_more marks mark i is)
  where
    by_cases : (is_marked marks i ≡ true) ⊎ ((i ≡ length marks) × (mark ≡ true)) → (is_marked marks i ≡ true) ⊎ ((suc i ≡ suc (length marks)) × (mark ≡ true))
    by_cases (inl there) = inl there
    by_cases (inr here) = inr (ap suc here.0, here.1)

more_marks : (marks : List Bool) (mark : Bool) → length (marks ++ mark ∷ []) ≡ length marks + 1
more_marks [] mark = refl
more_marks (m ∷ marks) mark = let rest = more_marks marks mark in omega (arith, rest)

-- the marks before it stay
marked_still : (marks : List Bool) (mark : Bool) (i : ℕ) → is_marked marks i ≡ true → is_marked (marks ++ mark ∷ []) i ≡ true
marked_still [] mark i is = absurd (let never : false ≡ true = is in cc)
marked_still (m ∷ marks) mark zero is = is
marked_still (m ∷ marks) mark (suc i) is = marked_still marks mark i is

marked_last : (marks : List Bool) (mark : Bool) → is_marked (marks ++ mark ∷ []) (length marks) ≡ mark
marked_last [] mark = refl
marked_last (m ∷ marks) mark = marked_last marks mark

-- HEADERS

some_part : (before after : Headers) (d : ℕ) → IsPart before after → IsSome (before d) → IsSome (after d)
some_part before after d part some = by_header (before d) refl some
  where
    by_header : (o : Option HeaderData) → before d ≡ o → IsSome o → IsSome (after d)
    by_header None e is = absurd (let never : false ≡ true = is in cc)
    by_header (Some h) e is = ap is_some (part d h e)

-- a header that is known before is the one that is known behind
same_before : (before after : Headers) (d : ℕ) (h : HeaderData) → IsPart before after → IsSome (before d) → after d ≡ Some h → before d ≡ Some h
same_before before after d h part some there = by_header (before d) refl some
  where
    by_header : (o : Option HeaderData) → before d ≡ o → IsSome o → before d ≡ Some h
    by_header None e is = absurd (let never : false ≡ true = is in cc)
    by_header (Some g) e is = e ∙ sym (part d g e) ∙ there

-- a header behind a package was known before, or is that of a declaration of it
abbrev pub AreNew : PackageData → Headers → Headers → Type 0
AreNew p before after = (d : ℕ) (h : HeaderData) → after d ≡ Some h → (before d ≡ Some h) ⊎ HasDeclaration (declarations_of p) d

pub new_headers : (p : PackageData) (naming : Naming) (before headers : Headers) (cyclic : ℕ → Bool) → HasHeaders before naming (declarations_of p) headers cyclic → AreNew p before headers
new_headers p naming before headers cyclic has d h e =
    let k = (has.known d h).0 e in
    by_cause (stays before naming (declarations_of p) k.list k.justified d h k.has)
  where
    by_cause : {over : Headers} → (before d ≡ Some h) ⊎ Follows before naming (declarations_of p) over d h → (before d ≡ Some h) ⊎ HasDeclaration (declarations_of p) d
    by_cause (inl was) = inl was
    by_cause (inr follows) = inr (follows.declaration, follows.declared)

-- STATES: as many marks as packages before the place

abbrev pub AreDeclared : PackageData → Headers → Type 0
AreDeclared p headers = (d : Declaration) → Contains (declarations_of p) d → IsSome (headers (number_of d).0)

module _ (m : ModuleData) where
  -- a number that the package at a place declares
  pub record Declares (place n : ℕ) : Type 0 where
    home : PackageData
    at : slice_get m.packages place ≡ Some home
    declaration : Declaration
    among : Contains (declarations_of home) declaration
    number : (number_of declaration).0 ≡ n

  declared_at : (k : ℕ) (p : PackageData) (n : ℕ) → slice_get m.packages k ≡ Some p → HasDeclaration (declarations_of p) n → Declares k n
  declared_at k p n here has =
      let is = declared_names (declarations_of p) n has.0 has.1 in
      record { home = p; at = here; declaration = has.0; among = is.among; number = is.number }

  -- a package that is accepted, and one before a place
  pub record IsKept (marks : List Bool) (n : ℕ) : Type 0 where
    place : ℕ
    marked : is_marked marks place ≡ true
    declared : Declares place n

  pub record IsBefore (k n : ℕ) : Type 0 where
    place : ℕ
    below : place < k
    declared : Declares place n

  pub record IsKnown (k : ℕ) (marks : List Bool) (before : Headers) : Type 0 where
    pub many : length marks ≡ k
    pub declared : (i : ℕ) (q : PackageData) → is_marked marks i ≡ true → slice_get m.packages i ≡ Some q → AreDeclared q before
    pub named : AreGood (IsKept marks) before
    pub stand : (n : ℕ) (h : HeaderData) → before n ≡ Some h → IsBefore k n

  -- what is declared in the package at the place, or in accepted ones before it
  abbrev pub IsOwn : List Bool → PackageData → ℕ → Type 0
  IsOwn marks p n = HasDeclaration (declarations_of p) n ⊎ IsKept marks n

  kept_some : (k : ℕ) (marks : List Bool) (before : Headers) → IsKnown k marks before → (n : ℕ) → IsKept marks n → IsSome (before n)
  kept_some k marks before is n kept =
      let there = is.declared kept.place kept.declared.home kept.marked kept.declared.at kept.declared.declaration kept.declared.among in
      subst (λ (i : ℕ). IsSome (before i)) kept.declared.number there

  pub own_cause : (k : ℕ) (marks : List Bool) (p : PackageData) (before : Headers) → IsKnown k marks before → (n : ℕ) → IsOwn marks p n → HasDeclaration (declarations_of p) n ⊎ IsSome (before n)
  own_cause k marks p before is n (inl declared) = inl declared
  own_cause k marks p before is n (inr kept) = inr (kept_some k marks before is n kept)

  -- no header is known before of what the package at the place declares
  pub own_good : NodeNumbersAscend m → (k : ℕ) (marks : List Bool) (p : PackageData) (before : Headers) → IsKnown k marks before → slice_get m.packages k ≡ Some p → AreGood (IsOwn marks p) before
  own_good ascend k marks p before is here n h (inr kept) e = header_so (IsKept marks) (IsOwn marks p) (λ i it. inr it) h (is.named n h kept e)
  own_good ascend k marks p before is here n h (inl declared) e =
      let was = is.stand n h e in
      let there = was.declared in
      let own = declared_names (declarations_of p) n declared.0 declared.1 in
      let below = was.below in
      let apart : was.place ≢ k = λ same. omega (arith, below, same) in
      absurd (ascend.apart was.place k there.home p apart there.at here n
      (subst (λ (i : ℕ). Contains (numbers_in_files there.home.files) i) there.number (name_there there.home there.declaration there.among))
      (subst (λ (i : ℕ). Contains (numbers_in_files p.files) i) own.number (name_there p declared.0 own.among)))

  -- ONE PACKAGE MORE

  kept_more : (marks : List Bool) (mark : Bool) (n : ℕ) → IsKept marks n → IsKept (marks ++ mark ∷ []) n
  kept_more marks mark n kept = record { place = kept.place; marked = marked_still marks mark kept.place kept.marked; declared = kept.declared }

  before_more : (k : ℕ) (p : PackageData) (before after : Headers) → ((n : ℕ) (h : HeaderData) → before n ≡ Some h → IsBefore k n) → slice_get m.packages k ≡ Some p → AreNew p before after
      → (n : ℕ) (h : HeaderData) → after n ≡ Some h → IsBefore (k + 1) n
  before_more k p before after stand here new n h e = by_cause (new n h e)
    where
      by_cause : (before n ≡ Some h) ⊎ HasDeclaration (declarations_of p) n → IsBefore (k + 1) n
      by_cause (inl was) = let there = stand n h was in let below = there.below in record { place = there.place; below = omega (arith, below); declared = there.declared }
      by_cause (inr declared) = record { place = k; below = omega arith; declared = declared_at k p n here declared }

  -- behind a package that is not accepted there may be more headers, and those of its declarations are not owed
  pub not_accepted : (k : ℕ) (marks : List Bool) (p : PackageData) (before after : Headers) → IsKnown k marks before → slice_get m.packages k ≡ Some p
      → IsPart before after → AreNew p before after → IsKnown (k + 1) (marks ++ false ∷ []) after
  not_accepted k marks p before after is here part new = record {
    many = more_marks marks false ∙ ap (λ n. n + 1) is.many;
    declared = λ i q marked at. by_cases i q at (marked_more marks false i marked);
    named = λ n h kept e. of_kept n h (kept_less n kept) e;
    stand = before_more k p before after is.stand here new;
  }
    where
      by_cases : (i : ℕ) (q : PackageData) → slice_get m.packages i ≡ Some q → (is_marked marks i ≡ true) ⊎ ((i ≡ length marks) × (false ≡ true)) → AreDeclared q after
      by_cases i q at (inl marked) = λ d among. some_part before after (number_of d).0 part (is.declared i q marked at d among)
      by_cases i q at (inr never) = absurd (let not : false ≡ true = never.1 in cc)

      kept_less : (n : ℕ) → IsKept (marks ++ false ∷ []) n → IsKept marks n
      kept_less n kept = by_mark (marked_more marks false kept.place kept.marked)
        where
          by_mark : (is_marked marks kept.place ≡ true) ⊎ ((kept.place ≡ length marks) × (false ≡ true)) → IsKept marks n
          by_mark (inl marked) = record { place = kept.place; marked = marked; declared = kept.declared }
          by_mark (inr never) = absurd (let not : false ≡ true = never.1 in cc)

      of_kept : (n : ℕ) (h : HeaderData) → IsKept marks n → after n ≡ Some h → IsGoodHeader (IsKept (marks ++ false ∷ [])) h
      of_kept n h kept e =
          header_so (IsKept marks) (IsKept (marks ++ false ∷ [])) (kept_more marks false) h
          (is.named n h kept (same_before before after n h part (kept_some k marks before is n kept) e))

  pub same_headers : (k : ℕ) (marks : List Bool) (p : PackageData) (before : Headers) → IsKnown k marks before → slice_get m.packages k ≡ Some p → IsKnown (k + 1) (marks ++ false ∷ []) before
  same_headers k marks p before is here = not_accepted k marks p before before is here (λ d h e. e) (λ d h e. inl e)

  -- behind an accepted one those of its declarations are
  pub known_more : (k : ℕ) (marks : List Bool) (p : PackageData) (before after : Headers) → IsKnown k marks before → slice_get m.packages k ≡ Some p
      → IsPart before after → AreNew p before after → AreGood (IsOwn marks p) after → AreDeclared p after → IsKnown (k + 1) (marks ++ true ∷ []) after
  known_more k marks p before after is here part new good declared = record {
    many = more_marks marks true ∙ ap (λ n. n + 1) is.many;
    declared = λ i q marked at. by_cases i q at (marked_more marks true i marked);
    named = λ n h kept e. header_so (IsOwn marks p) (IsKept (marks ++ true ∷ [])) own_kept h (good n h (kept_own n kept) e);
    stand = before_more k p before after is.stand here new;
  }
    where
      same_package : (i : ℕ) (q : PackageData) → i ≡ length marks → slice_get m.packages i ≡ Some q → p ≡ q
      same_package i q last at = same_Some p q (sym here ∙ ap (slice_get m.packages) (sym (last ∙ is.many)) ∙ at)

      by_cases : (i : ℕ) (q : PackageData) → slice_get m.packages i ≡ Some q → (is_marked marks i ≡ true) ⊎ ((i ≡ length marks) × (true ≡ true)) → AreDeclared q after
      by_cases i q at (inl marked) = λ d among. some_part before after (number_of d).0 part (is.declared i q marked at d among)
      by_cases i q at (inr last) = subst (λ (x : PackageData). AreDeclared x after) (same_package i q last.0 at) declared

      own_kept : (n : ℕ) → IsOwn marks p n → IsKept (marks ++ true ∷ []) n
      own_kept n (inl has) = record { place = k; marked = ap (is_marked (marks ++ true ∷ [])) (sym is.many) ∙ marked_last marks true; declared = declared_at k p n here has }
      own_kept n (inr kept) = kept_more marks true n kept

      kept_own : (n : ℕ) → IsKept (marks ++ true ∷ []) n → IsOwn marks p n
      kept_own n kept = by_mark (marked_more marks true kept.place kept.marked)
        where
          by_mark : (is_marked marks kept.place ≡ true) ⊎ ((kept.place ≡ length marks) × (true ≡ true)) → IsOwn marks p n
          by_mark (inl marked) = inr (record { place = kept.place; marked = marked; declared = kept.declared })
          by_mark (inr last) =
              let is_there = kept.declared in
              let same = same_package kept.place is_there.home last.0 is_there.at in
              let among : Contains (declarations_of p) is_there.declaration = subst (λ (x : PackageData). Contains (declarations_of x) is_there.declaration) (sym same) is_there.among in
              let first = declared_by_number (declarations_of p) is_there.declaration among in
              inl (first.0, ap (declared_as (declarations_of p)) (sym is_there.number) ∙ first.1)

  pub imports_kept : (marks : List Bool) (p : PackageData) → imports_accepted marks p ≡ true → ImportsAreGood m p (IsKept marks)
  imports_kept marks p imports i q among at d declared = record {
    place = i;
    marked = All-contains (λ j. is_marked marks j ≡ true) p.imports i (AllPass-from_list_all (is_marked marks) p.imports imports) among;
    declared = record { home = q; at = at; declaration = d; among = declared; number = refl };
  }
