-- Lists of demands, as the code goes over them.
use Rattle.std.proofs.Common.{◌≡◌, ℕ, suc, ◌+◌, ◌<◌, ◌≤◌, Bool, true, false, min, List, [], ◌∷◌, ◌++◌, ◌⊎◌, inl, inr, Contains, get_or, length, map, drop, refl, sym, ap, ◌∙◌, subst, arith, add-one, drop-cons}
use Rattle.std.specs.Prelude.{◌↔◌}
use Rattle.std.specs.List.{flat_map, zip}
use Rattle.std.proofs.lemmas.Bool.{cases_lt}
use Rattle.std.proofs.lemmas.List.{append-nil, drop_all}
use Rattle.std.proofs.lemmas.List.Elements.{Contains-append_cases, Contains-append_left, Contains-append_right}
use Rattle.go_base.specs.declared.rule.Broken.{Broken}
use Rattle.go_tree.specs.Tree.{Tree}
use Rattle.go_module.specs.Broken.{told_if}
use Rattle.go_module.proofs.MemberLemmas.{cons_cases, contains_head, contains_none, contains_tail}
use Rattle.go_term.specs.Types.{TypeData}
use Rattle.go_term.specs.declared.term.Term.{Term}
use Rattle.go_judge.specs.Judged.{OutcomeData}
use Rattle.go_judge.specs.Records.{RecData}
use Rattle.go_judge.specs.Headers.{Headers}
use Rattle.go_judge.specs.Types.Own.{KeepsTypes}
use Rattle.go_model.proofs.FlatLemmas.{only_is}
use Rattle.go_obligations.specs.declared.obligation.Obligation.{Obligation}
use Rattle.go_obligations.specs.Owed.{AreOwnObligations, Fails, IsTold, Owed, owed_as, owed_by_field, owed_by_fields, owed_view, told_of}

-- FIELDS AND THEIR TYPES

-- nothing is paired with an empty list
no_pairs : {A B : Type 0} (xs : List A) → zip {X = B} xs [] ≡ []
no_pairs [] = refl
no_pairs (x ∷ xs) = refl

-- behind the shorter of two lists nothing is left to pair
pairs_done : {A B C D : Type 0} (f : A → C) (g : B → D) (xs : List A) (ys : List B) (i : ℕ) → min (length xs) (length ys) ≤ i → zip (map f (drop i xs)) (map g (drop i ys)) ≡ []
pairs_done f g xs ys i behind =
    elim (cases_lt i (length xs)) [
      | inl within ↦ ap (λ l. zip (map f (drop i xs)) (map g l)) (drop_all i ys (omega arith)) ∙ no_pairs (map f (drop i xs))
      | inr past ↦ ap (λ l. zip (map f l) (map g (drop i ys))) (drop_all i xs past)
    ]

-- behind the last field or the last type
pub fields_done : {A B : Type 0} (outcome : Tree → OutcomeData RecData) (file : ℕ) (told_at : _) (f : A → Tree) (g : B → Tree) (fields : List A) (types : List B) (i : ℕ) (list whole : List Owed)
    → min (length fields) (length types) ≤ i → list ++ owed_by_fields outcome file told_at (map f (drop i fields)) (map g (drop i types)) ≡ whole → list ≡ whole
fields_done outcome file told_at f g fields types i list whole behind so_far =
    sym (append-nil list)
    ∙ ap (λ pairs. list ++ flat_map (λ (pair : Tree × Tree). owed_by_field outcome file told_at pair.0 pair.1) pairs) (sym (pairs_done f g fields types i behind))
    ∙ so_far

-- WHAT IS TOLD

-- a further one that fails or not
pub told_more : (headers : Headers) (tree : Term → TypeData) (o : Obligation) (os : List Obligation) (found : List Broken) (fails : Bool)
    → ((fails ≡ true) ↔ Fails headers o.demand (tree o.ty)) → (b : Broken)
    → (Contains (found ++ told_if fails (told_of (owed_as tree o))) b ⊎ IsTold headers (owed_view tree os) b) ↔ (Contains found b ⊎ IsTold headers (owed_view tree (o ∷ os)) b)
told_more headers tree o os found fails decided b = (to, from)
  where
    of_one : (yes : Bool) → fails ≡ yes → Contains (told_if yes (told_of (owed_as tree o))) b → Contains found b ⊎ IsTold headers (owed_view tree (o ∷ os)) b
    of_one true is h =
        inr (record { owed = owed_as tree o; among = contains_head (owed_as tree o) (owed_view tree os) (owed_as tree o) refl; fails = decided.0 is; told = only_is (told_of (owed_as tree o)) b h })
    of_one false is h = absurd (contains_none b h)

    of_found : Contains found b ⊎ Contains (told_if fails (told_of (owed_as tree o))) b → Contains found b ⊎ IsTold headers (owed_view tree (o ∷ os)) b
    of_found (inl before) = inl before
    of_found (inr now) = of_one fails refl now

    to : Contains (found ++ told_if fails (told_of (owed_as tree o))) b ⊎ IsTold headers (owed_view tree os) b → Contains found b ⊎ IsTold headers (owed_view tree (o ∷ os)) b
    to (inl h) = of_found (Contains-append_cases found (told_if fails (told_of (owed_as tree o))) b h)
    to (inr h) = inr (record { owed = h.owed; among = contains_tail (owed_as tree o) (owed_view tree os) h.owed h.among; fails = h.fails; told = h.told })

    pushed : (yes : Bool) → yes ≡ true → told_of (owed_as tree o) ≡ b → Contains (told_if yes (told_of (owed_as tree o))) b
    pushed true is same = contains_head (told_of (owed_as tree o)) [] b same
    pushed false is same = absurd (let never : false ≡ true = is in cc)

    from_list : (h : IsTold headers (owed_view tree (o ∷ os)) b) → (owed_as tree o ≡ h.owed) ⊎ Contains (owed_view tree os) h.owed → Contains (found ++ told_if fails (told_of (owed_as tree o))) b ⊎ IsTold headers (owed_view tree os) b
    from_list h (inl same) =
        let no : Fails headers o.demand (tree o.ty) = subst (λ (x : Owed). Fails headers x.demand x.type) (sym same) h.fails in
        inl (Contains-append_right found (told_if fails (told_of (owed_as tree o))) b (pushed fails (decided.1 no) (ap told_of same ∙ h.told)))
    from_list h (inr there) = inr (record { owed = h.owed; among = there; fails = h.fails; told = h.told })

    from : Contains found b ⊎ IsTold headers (owed_view tree (o ∷ os)) b → Contains (found ++ told_if fails (told_of (owed_as tree o))) b ⊎ IsTold headers (owed_view tree os) b
    from (inl h) = inl (Contains-append_left found (told_if fails (told_of (owed_as tree o))) b h)
    from (inr h) = from_list h (cons_cases (owed_as tree o) (owed_view tree os) h.owed h.among)

-- where none is left
pub told_end : (headers : Headers) (list : List Owed) (found : List Broken) (b : Broken) → list ≡ [] → Contains found b ⊎ IsTold headers list b → Contains found b
told_end headers list found b none (inl h) = h
told_end headers list found b none (inr h) = absurd (contains_none h.owed (subst (λ (l : List Owed). Contains l h.owed) none h.among))

-- one of several
module _ {own own' : Term → Type 0} {tree tree' : Term → TypeData} (kept : KeepsTypes own own' tree tree')
    (os : List Obligation) (i : ℕ) (o : Obligation) (lt : i < length os) (at : o ≡ get_or os i o) (all : AreOwnObligations own (drop i os)) where
  opens : drop i os ≡ o ∷ drop (i + 1) os
  opens = rw add-one (drop-cons os i o lt ∙ ap (λ l. l ∷ drop (suc i) os) (sym at))

  both_own : AreOwnObligations own (o ∷ drop (i + 1) os)
  both_own = subst (AreOwnObligations own) opens all

  pub here_own : own' o.ty
  here_own = kept.types o.ty both_own.0

  here_same : tree' o.ty ≡ tree o.ty
  here_same = kept.trees o.ty both_own.0

  pub later_own : AreOwnObligations own (drop (i + 1) os)
  later_own = both_own.1

  -- what was found, with what is told of those left, stays as it was
  pub told_next : (headers headers' : Headers) → headers' ≡ headers → (found new : List Broken) (fails : Bool) (told : Broken) → ((fails ≡ true) ↔ Fails headers' o.demand (tree' o.ty))
      → told ≡ told_of (owed_as tree o) → new ≡ found ++ told_if fails told → (Whole : Broken → Type 0) → ((b : Broken) → (Contains found b ⊎ IsTold headers (owed_view tree (drop i os)) b) ↔ Whole b)
      → (b : Broken) → (Contains new b ⊎ IsTold headers (owed_view tree (drop (i + 1) os)) b) ↔ Whole b
  told_next headers headers' same found new fails told decided is pushed Whole so_far b =
      let rest = drop (i + 1) os in
      let here : (fails ≡ true) ↔ Fails headers o.demand (tree o.ty) =
      subst (λ (t : TypeData). (fails ≡ true) ↔ Fails headers o.demand t) here_same (subst (λ (hs : Headers). (fails ≡ true) ↔ Fails hs o.demand (tree' o.ty)) same decided) in
      let more = told_more headers tree o rest found fails here b in
      let now : new ≡ found ++ told_if fails (told_of (owed_as tree o)) = pushed ∙ ap (λ x. found ++ told_if fails x) is in
      let before : (Contains found b ⊎ IsTold headers (owed_view tree (o ∷ rest)) b) ↔ Whole b =
      subst (λ (l : List Obligation). (Contains found b ⊎ IsTold headers (owed_view tree l) b) ↔ Whole b) opens (so_far b) in
      let Left : List Broken → Type 0 = λ l. Contains l b ⊎ IsTold headers (owed_view tree rest) b in
      (λ h. before.0 (more.0 (subst Left now h)), λ w. subst Left (sym now) (more.1 (before.1 w)))
