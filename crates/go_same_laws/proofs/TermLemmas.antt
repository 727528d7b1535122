-- Terms of unions: where a term lies within a second and that within a third, the first lies within the third; and where a term
-- lies within two others, the one lies within the other as far as a premise tells, unless that has no `~` and the one has.
use Rattle.std.proofs.Common.{◌≡◌, ℕ, ◌+◌, ◌-◌, ◌≤◌, Bool, true, false, if◌then◌else◌, Option, Some, None, ◌⊎◌, inl, inr, refl, sym, ap, subst, ◌∙◌, arith}
use Rattle.std.specs.Prelude.{nat_le}
use Rattle.go_term.specs.Types.{TypeData}
use Rattle.go_judge.specs.Headers.{Headers}
use Rattle.go_judge.specs.Types.Heads.{alike}
use Rattle.go_judge.specs.Types.TypeIdentity.{Test, and_ask, behind, both_found, by_form, fit, has_underlying, is_declared, lies_within_by, same_found, same_term, same_underlying}
use Rattle.go_judge.specs.Types.TypeSets.{plain}
use Rattle.go_judge.specs.Quests.{Done, run}
use Rattle.go_same_laws.proofs.AlikeLemmas.{fit_itself}
use Rattle.go_same_laws.proofs.FitLemmas.{is_le, le_is}
use Rattle.go_same_laws.proofs.NormLemmas.{IsPlain, plain_is, plain_twice}
use Rattle.go_same_laws.proofs.OrderLemmas.{Asking, Carries, TellsFit, behind_carries, fits_form, term_carries}
use Rattle.go_same_laws.proofs.SwapLemmas.{behind_swap, if_yes, or_yes, yes_if, yes_or}
use Rattle.go_same_laws.proofs.TotalLemmas.{IsTotal}
use Rattle.go_same_laws.proofs.UnderLemmas.{both_is, fit_declared, found, literals, some_is, underlying_is}
use Rattle.go_same_laws.proofs.YesLemmas.{IsYes, both_yes, not_no, yes_both}

-- what is known of the questions a level below
pub record Level (headers : Headers) (go : Asking) : Type 0 where
  pub tells : TellsFit headers go
  pub more : Carries headers go go false false
  pub fewer : Carries headers go go true true
  pub premise : Carries headers go go false true
  pub itself : (left : ℕ) (a : TypeData) → IsYes headers (go true left a a)
  pub turn : (left : ℕ) (a b : TypeData) → IsYes headers (go false left a b) → IsYes headers (go false left b a)
  pub chain : (left right : ℕ) (a b c : TypeData) → IsPlain a → IsPlain b → IsPlain c → IsYes headers (go false left a b) → IsYes headers (go false right b c) → IsYes headers (go false (left + right) a c)

module _ (headers : Headers) (total : IsTotal headers) (go : Asking) (level : Level headers go) where
  -- BEHIND NAMES

  abbrev Behind : ℕ → ℕ → TypeData → TypeData → Type 0
  Behind n o a b = IsYes headers (behind go n false o a b)

  abbrev Premise : ℕ → ℕ → TypeData → TypeData → Type 0
  Premise n o a b = IsYes headers (behind go n true o a b)

  behind_more : (n o m k : ℕ) → n + k ≤ m + o → (a b : TypeData) → Behind n o a b → Behind m k a b
  behind_more n o m k room = behind_carries headers total false false go go level.tells level.more n o m k room

  behind_premise : (n o m k : ℕ) (a b : TypeData) → Behind n o a b → Premise m k a b
  behind_premise n o m k = behind_carries headers total false true go go level.tells level.premise n o m k tt

  pub behind_on : (p o q k l : ℕ) → l ≤ o + k → (a b c : TypeData) → IsPlain a → IsPlain b → IsPlain c → Behind p o a b → Behind q k b c → Behind (p + q) l a c
  behind_on p o q k l few a b c plain_a plain_b plain_c told after =
      let one = if_yes headers (nat_le o p) (go false (p - o) a b) told in
      let two = if_yes headers (nat_le k q) (go false (q - k) b c) after in
      let here : o ≤ p = le_is o p one.0 in
      let there : k ≤ q = le_is k q two.0 in
      let all : l ≤ p + q = omega arith in
      let left : (p - o) + (q - k) ≤ (p + q) - l = omega arith in
      yes_if headers (nat_le l (p + q)) (go false ((p + q) - l) a c) (is_le l (p + q) all)
      (level.more ((p - o) + (q - k)) ((p + q) - l) left a c (level.chain (p - o) (q - k) a b c plain_a plain_b plain_c one.1 two.1))

  -- one type, or the same behind so many names
  abbrev Same : ℕ → ℕ → TypeData → TypeData → Type 0
  Same n o a b = (a ≡ b) ⊎ Behind n o a b

  same_on : (p o q k l : ℕ) → l ≤ o + k → l ≤ p + k → (a b c : TypeData) → IsPlain a → IsPlain b → IsPlain c → Same p o a b → Behind q k b c → Behind (p + q) l a c
  same_on p o q k l few less a b c plain_a plain_b plain_c (inl e) after = subst (λ (w : TypeData). Behind (p + q) l w c) (sym e) (behind_more q k (p + q) l (omega arith) b c after)
  same_on p o q k l few less a b c plain_a plain_b plain_c (inr told) after = behind_on p o q k l few a b c plain_a plain_b plain_c told after

  itself_premise : (n l : ℕ) (a : TypeData) → Premise n l a a
  itself_premise n l a = elim (nat_le l n) as (λ (b : Bool). IsYes headers (if b then go true (n - l) a a else by_form true a a)) [ true ↦ level.itself (n - l) a | false ↦ fits_form headers true a a refl (fit_itself a) ]

  -- of two types that are both the same as one
  both_premise : (p o k n l : ℕ) (a b c : TypeData) → IsPlain a → IsPlain b → IsPlain c → Same p o a b → Same p k a c → Premise n l b c
  both_premise p o k n l a b c plain_a plain_b plain_c (inl e) (inl f) = subst (Premise n l b) (sym e ∙ f) (itself_premise n l b)
  both_premise p o k n l a b c plain_a plain_b plain_c (inl e) (inr f) = subst (λ (w : TypeData). Premise n l w c) e (behind_premise p k n l a c f)
  both_premise p o k n l a b c plain_a plain_b plain_c (inr e) (inl f) = subst (Premise n l b) f (behind_premise p o n l b a (behind_swap headers go level.turn p o a b e))
  both_premise p o k n l a b c plain_a plain_b plain_c (inr e) (inr f) =
      behind_premise (p + p) 0 n l b c (behind_on p o p k 0 (omega arith) b a c plain_b plain_a plain_c (behind_swap headers go level.turn p o a b e) f)

  -- UNDERLYING TYPES

  abbrev Found : TypeData → TypeData → Type 0
  Found a u = found headers total a ≡ Some u

  of_underlying : (n o : ℕ) (a b : TypeData) → IsYes headers (has_underlying go n false o a b) → (u : TypeData) × (Found a u × Behind n o (plain u) b)
  of_underlying n o a b told = at (found headers total a) refl (sym (underlying_is headers total go n false o a b) ∙ told)
    where
      at : (x : Option TypeData) → found headers total a ≡ x → IsYes headers (same_found go n false o b x) → (u : TypeData) × (Found a u × Behind n o (plain u) b)
      at None e told = absurd (not_no headers told)
      at (Some u) e told = (u, (e, told))

  to_underlying : (n o : ℕ) (a b u : TypeData) → Found a u → Behind n o (plain u) b → IsYes headers (has_underlying go n false o a b)
  to_underlying n o a b u e told = underlying_is headers total go n false o a b ∙ ap (λ x. run headers (same_found go n false o b x)) e ∙ told

  premise_underlying : (n o : ℕ) (a b : TypeData) → ((u : TypeData) → Found a u → Premise n o (plain u) b) → IsYes headers (has_underlying go n true o a b)
  premise_underlying n o a b so = underlying_is headers total go n true o a b ∙ at (found headers total a) refl
    where
      at : (x : Option TypeData) → found headers total a ≡ x → IsYes headers (same_found go n true o b x)
      at None e = refl
      at (Some u) e = so u e

  -- the underlying types are the same
  record Beneath (n o : ℕ) (a b : TypeData) : Type 0 where
    one : TypeData
    other : TypeData
    is_one : Found a one
    is_other : Found b other
    told : Behind n o (plain one) (plain other)

  of_both : (n o : ℕ) (a b : TypeData) → IsYes headers (same_underlying go n false o a b) → Beneath n o a b
  of_both n o a b told = at (found headers total b) refl (sym (both_is headers total go n false o a b) ∙ told)
    where
      at : (x : Option TypeData) → found headers total b ≡ x → IsYes headers (both_found go n false o a x) → Beneath n o a b
      at None e told = absurd (not_no headers told)
      at (Some v) e told = let one = of_underlying n o a (plain v) told in record { one = one.0; other = v; is_one = one.1.0; is_other = e; told = one.1.1 }

  to_both : (n o : ℕ) (a b : TypeData) → Beneath n o a b → IsYes headers (same_underlying go n false o a b)
  to_both n o a b both =
      both_is headers total go n false o a b ∙ ap (λ x. run headers (both_found go n false o a x)) both.is_other
      ∙ to_underlying n o a (plain both.other) both.one both.is_one both.told

  both_underlying : (n o : ℕ) (a b : TypeData) → ((u v : TypeData) → Found a u → Found b v → Premise n o (plain u) (plain v)) → IsYes headers (same_underlying go n true o a b)
  both_underlying n o a b so = both_is headers total go n true o a b ∙ at (found headers total b) refl
    where
      at : (x : Option TypeData) → found headers total b ≡ x → IsYes headers (both_found go n true o a x)
      at None e = refl
      at (Some v) e = premise_underlying n o a (plain v) (λ u f. so u v f e)

  -- TERMS WITHOUT `~`

  -- what is told of two types that are not one
  record Distinct (n o : ℕ) (a b : TypeData) : Type 0 where
    types : Behind n o a b
    beneath : is_declared a ≡ true → Beneath n (o + 2) a b

  abbrev declared_test : Bool → ℕ → ℕ → TypeData → TypeData → Test
  declared_test short n o a b = if is_declared a then same_underlying go n short (o + 2) a b else Done true

  of_term : (n o : ℕ) (a b : TypeData) → IsPlain a → IsPlain b → IsYes headers (same_term go n false o a b) → (a ≡ b) ⊎ Distinct n o a b
  of_term n o a b plain_a plain_b told = at (alike a b) refl
    where
      beneath : (p : Bool) → p ≡ true → IsYes headers (if p then same_underlying go n false (o + 2) a b else Done true) → Beneath n (o + 2) a b
      beneath true e told = of_both n (o + 2) a b told
      beneath false e told = absurd (let wrong : false ≡ true = e in cc wrong)

      at : (p : Bool) → alike a b ≡ p → (a ≡ b) ⊎ Distinct n o a b
      at true e = inl (plain_is a b plain_a plain_b e)
      at false e =
          let parts = yes_both headers (behind go n false o a b) (declared_test false n o a b) (or_yes headers (alike a b) (and_ask (behind go n false o a b) (declared_test false n o a b)) e told) in
          inr (record { types = parts.0; beneath = λ is. beneath (is_declared a) is parts.1 })

  where_declared : (p : Bool) (q : Test) → (p ≡ true → IsYes headers q) → IsYes headers (if p then q else Done true)
  where_declared true q so = so refl
  where_declared false q so = refl

  to_term : (n o : ℕ) (a b : TypeData) → (alike a b ≡ false → Distinct n o a b) → IsYes headers (same_term go n false o a b)
  to_term n o a b so =
      yes_or headers (alike a b) (and_ask (behind go n false o a b) (declared_test false n o a b)) (λ other.
      let parts = so other in
      both_yes headers (behind go n false o a b) (declared_test false n o a b) parts.types
      (where_declared (is_declared a) (same_underlying go n false (o + 2) a b) (λ is. to_both n (o + 2) a b (parts.beneath is))))

  behind_fits : (n o : ℕ) (a b : TypeData) → Behind n o a b → fit a b ≡ true
  behind_fits n o a b told = level.tells false (n - o) a b (if_yes headers (nat_le o n) (go false (n - o) a b) told).1

  -- the underlying type of a term that lies within one whose underlying type is found
  term_found : (n o : ℕ) (a b v : TypeData) → IsPlain a → IsPlain b → IsYes headers (same_term go n false o a b) → Found b v → (u : TypeData) × (Found a u × Same n o (plain u) (plain v))
  term_found n o a b v plain_a plain_b told is = at (of_term n o a b plain_a plain_b told)
    where
      declared : (p : Bool) → is_declared a ≡ p → Distinct n o a b → (u : TypeData) × (Found a u × Same n o (plain u) (plain v))
      declared true e parts =
          let both = parts.beneath e in
          let same = some_is headers total both.other v (sym both.is_other ∙ is) in
          (both.one, (both.is_one, inr (subst (λ (w : TypeData). Behind n o (plain both.one) (plain w)) same (behind_more n (o + 2) n o (omega arith) (plain both.one) (plain both.other) both.told))))
      declared false e parts =
          let own = literals headers total a b v plain_a plain_b (behind_fits n o a b parts.types) e is in (
            own.it,
            (
              own.is,
              elim own.same as (λ _. Same n o (plain own.it) (plain v)) [
                | inl one ↦ inl one
                | inr two ↦ inr (subst (λ (w : TypeData). Behind n o (plain own.it) w) (sym two.1) (subst (λ (w : TypeData). Behind n o w b) (sym two.0) parts.types))
              ],
            ),
          )

      at : (a ≡ b) ⊎ Distinct n o a b → (u : TypeData) × (Found a u × Same n o (plain u) (plain v))
      at (inl e) = (v, (ap (found headers total) e ∙ is, inl refl))
      at (inr parts) = declared (is_declared a) refl parts

  term_on : (p q xo yo zo : ℕ) → xo ≤ p → zo ≤ q → (a b c : TypeData) → IsPlain a → IsPlain b → IsPlain c
      → IsYes headers (same_term go p false (xo + yo) a b) → IsYes headers (same_term go q false (yo + zo) b c) → IsYes headers (same_term go (p + q) false (xo + zo) a c)
  term_on p q xo yo zo first last a b c plain_a plain_b plain_c told after = at (of_term p (xo + yo) a b plain_a plain_b told) (of_term q (yo + zo) b c plain_b plain_c after)
    where
      carried : (n o : ℕ) → n + (xo + zo) ≤ (p + q) + o → (d e : TypeData) → IsYes headers (same_term go n false o d e) → IsYes headers (same_term go (p + q) false (xo + zo) d e)
      carried n o room = term_carries headers total false false go go level.tells level.more n o (p + q) (xo + zo) room

      at : (a ≡ b) ⊎ Distinct p (xo + yo) a b → (b ≡ c) ⊎ Distinct q (yo + zo) b c → IsYes headers (same_term go (p + q) false (xo + zo) a c)
      at (inl e) any = subst (λ (w : TypeData). IsYes headers (same_term go (p + q) false (xo + zo) w c)) (sym e) (carried q (yo + zo) (omega arith) b c after)
      at (inr x) (inl f) = subst (λ (w : TypeData). IsYes headers (same_term go (p + q) false (xo + zo) a w)) f (carried p (xo + yo) (omega arith) a b told)
      at (inr x) (inr y) = to_term (p + q) (xo + zo) a c (λ other. record {
        types = behind_on p (xo + yo) q (yo + zo) (xo + zo) (omega arith) a b c plain_a plain_b plain_c x.types y.types;
        beneath = λ is.
            let one = x.beneath is in
            let two = y.beneath (sym (fit_declared a b (behind_fits p (xo + yo) a b x.types)) ∙ is) in
            let same = some_is headers total two.one one.other (sym two.is_one ∙ one.is_other) in
            record {
              one = one.one;
              other = two.other;
              is_one = one.is_one;
              is_other = two.is_other;
              told = behind_on p ((xo + yo) + 2) q ((yo + zo) + 2) ((xo + zo) + 2) (omega arith) (plain one.one) (plain one.other) (plain two.other)
                  (plain_twice one.one) (plain_twice one.other) (plain_twice two.other) one.told
                  (subst (λ (w : TypeData). Behind q ((yo + zo) + 2) (plain w) (plain two.other)) same two.told);
            };
      })

  -- ALL TERMS

  -- a term within a second, and that within a third
  pub within_on : (p q xo yo zo : ℕ) → xo ≤ p → zo ≤ q → (a b c : TypeData) → IsPlain a → IsPlain b → IsPlain c → (i j k : Bool)
      → IsYes headers (lies_within_by go p false i j (xo + yo) a b) → IsYes headers (lies_within_by go q false j k (yo + zo) b c) → IsYes headers (lies_within_by go (p + q) false i k (xo + zo) a c)
  within_on p q xo yo zo first last a b c plain_a plain_b plain_c true false k told after = absurd (not_no headers told)
  within_on p q xo yo zo first last a b c plain_a plain_b plain_c i true false told after = absurd (not_no headers after)
  within_on p q xo yo zo first last a b c plain_a plain_b plain_c true true true told after = behind_on p (xo + yo) q (yo + zo) (xo + zo) (omega arith) a b c plain_a plain_b plain_c told after
  within_on p q xo yo zo first last a b c plain_a plain_b plain_c false true true told after =
      let one = of_underlying p ((xo + yo) + 1) a b told in
      to_underlying (p + q) ((xo + zo) + 1) a c one.0 one.1.0
      (behind_on p ((xo + yo) + 1) q (yo + zo) ((xo + zo) + 1) (omega arith) (plain one.0) b c (plain_twice one.0) plain_b plain_c one.1.1 after)
  within_on p q xo yo zo first last a b c plain_a plain_b plain_c false false true told after =
      let two = of_underlying q ((yo + zo) + 1) b c after in
      let one = term_found p (xo + yo) a b two.0 plain_a plain_b told two.1.0 in
      to_underlying (p + q) ((xo + zo) + 1) a c one.0 one.1.0
      (same_on p (xo + yo) q ((yo + zo) + 1) ((xo + zo) + 1) (omega arith) (omega arith) (plain one.0) (plain two.0) c (plain_twice one.0) (plain_twice two.0) plain_c one.1.1 two.1.1)
  within_on p q xo yo zo first last a b c plain_a plain_b plain_c false false false told after = term_on p q xo yo zo first last a b c plain_a plain_b plain_c told after

  -- a term within two others, where there is no `~` before the first of these, or one before both
  pub beside : (p o k n l : ℕ) (a b c : TypeData) → IsPlain a → IsPlain b → IsPlain c → (h i j : Bool) → (i ≡ true → j ≡ true)
      → IsYes headers (lies_within_by go p false h i o a b) → IsYes headers (lies_within_by go p false h j k a c) → IsYes headers (lies_within_by go n true i j l b c)
  beside p o k n l a b c plain_a plain_b plain_c true false j so told other = absurd (not_no headers told)
  beside p o k n l a b c plain_a plain_b plain_c h true false so told other = absurd (let wrong : false ≡ true = so refl in cc wrong)
  beside p o k n l a b c plain_a plain_b plain_c true true true so told other = both_premise p o k n l a b c plain_a plain_b plain_c (inr told) (inr other)
  beside p o k n l a b c plain_a plain_b plain_c false true true so told other =
      let one = of_underlying p (o + 1) a b told in
      let two = of_underlying p (k + 1) a c other in
      let same = some_is headers total two.0 one.0 (sym two.1.0 ∙ one.1.0) in
      both_premise p (o + 1) (k + 1) n l (plain one.0) b c (plain_twice one.0) plain_b plain_c (inr one.1.1) (inr (subst (λ (w : TypeData). Behind p (k + 1) (plain w) c) same two.1.1))
  beside p o k n l a b c plain_a plain_b plain_c false false true so told other = premise_underlying n (l + 1) b c (λ v is.
      let one = term_found p o a b v plain_a plain_b told is in
      let two = of_underlying p (k + 1) a c other in
      let same = some_is headers total two.0 one.0 (sym two.1.0 ∙ one.1.0) in
      both_premise p o (k + 1) n (l + 1) (plain one.0) (plain v) c (plain_twice one.0) (plain_twice v) plain_c one.1.1 (inr (subst (λ (w : TypeData). Behind p (k + 1) (plain w) c) same two.1.1)))
  beside p o k n l a b c plain_a plain_b plain_c false false false so told other =
      yes_or headers (alike b c) (and_ask (behind go n true l b c) (declared_test true n l b c)) (λ unlike.
      both_yes headers (behind go n true l b c) (declared_test true n l b c)
      (both_premise p o k n l a b c plain_a plain_b plain_c (types (of_term p o a b plain_a plain_b told)) (types (of_term p k a c plain_a plain_c other)))
      (where_declared (is_declared b) (same_underlying go n true (l + 2) b c) (λ is. both_underlying n (l + 2) b c (λ v w is_v is_w.
      let one = term_found p o a b v plain_a plain_b told is_v in
      let two = term_found p k a c w plain_a plain_c other is_w in
      let same = some_is headers total two.0 one.0 (sym two.1.0 ∙ one.1.0) in
      both_premise p o k n (l + 2) (plain one.0) (plain v) (plain w) (plain_twice one.0) (plain_twice v) (plain_twice w) one.1.1 (subst (λ (y : TypeData). Same p k (plain y) (plain w)) same two.1.1)))))
    where
      types : {m i : ℕ} {d e : TypeData} → (d ≡ e) ⊎ Distinct m i d e → Same m i d e
      types (inl e) = inl e
      types (inr x) = inr x.types
