-- Lemmas on the order of broken rules: it is strict and total, and gives at most one list.
use Rattle.std.proofs.Common.{◌≡◌, ℕ, zero, suc, ◌<◌, true, cond, ◌==◌, ◌&&◌, nat_eq, eq-eqb, rules, List, [], ◌∷◌, ◌⊎◌, inl, inr, refl, sym, ap, subst, ◌∙◌, arith}
use Rattle.std.specs.Cmp.{IsTotalOrder, IsEquivalence, ranks, strict, means, both_ways, Equal-is, tied_itself}
use denote.Enum.Bare.{sameb, same_true, true_same}
use Rattle.std.proofs.lemmas.Bool.{and_parts, eqb-true}
use Rattle.std.proofs.lemmas.List.Sorted.{Contains-permutation, IsPermutation-sym}
use Rattle.std.specs.List.{AllPairs, Contains, dedup}
use Rattle.std.specs.List.Sorted.{IsPermutation, IsSorted, IsStrictlySortedBy}
use Rattle.std.proofs.lemmas.List.Elements.{All-weaker, All-from_recursion}
use Rattle.std.proofs.lemmas.List.Kept.{AllPairs-cons, Contains-dedup, Contains-from_dedup, IsStrictlySortedBy-dedup}
use Rattle.std.specs.declared.cmp.Ordering.{Ordering}
use Rattle.std.specs.declared.cmp.Ordering.TheVariants.{Less, Equal, Greater}
use Rattle.std.specs.Ordering.{MatchOrdering, ordering_then, nat_cmp, eq_by_cmp, is_eq}
use Rattle.go_base.specs.contracts.rule.Family as family
use Rattle.go_base.specs.contracts.rule.BrokenPartialEq as broken_eq
use Rattle.go_base.specs.declared.places.Pos.{Pos}
use Rattle.go_base.specs.declared.rule.Broken.{Broken}
use Rattle.go_base.specs.declared.rule.Family.{Family}
use Rattle.go_base.specs.declared.rule.Family.TheVariants.{S, M, P, C, R, I, N, U, L}
use Rattle.go_base.specs.declared.rule.Rule.{Rule}
use Rattle.go_module.proofs.AscendingLemmas.{ascending_once}
use Rattle.go_module.specs.Order.{rank_of, rank, IsAbove, IsEarlier, IsBefore, IsListOf}

-- a rank tells the family
family_at : ℕ → Family
family_at n = cond (n == 1) M (cond (n == 2) S (cond (n == 3) P (cond (n == 4) C (cond (n == 5) I (cond (n == 6) R (cond (n == 7) N (cond (n == 9) L U)))))))

family_at-rank : (family : Family) (number : ℕ) → family_at (rank_of family number) ≡ family
unfolding family_at
family_at-rank M number = refl
family_at-rank S number = refl
family_at-rank P number = refl
family_at-rank C number = refl
family_at-rank I number = refl
family_at-rank R number = refl
family_at-rank N number = refl
family_at-rank L number = refl
family_at-rank U zero = refl
family_at-rank U (suc n) = refl

same_family : (r s : Rule) → rank r ≡ rank s → r.family ≡ s.family
same_family r s e = sym (family_at-rank r.family r.number) ∙ ap family_at e ∙ family_at-rank s.family s.number

same_rule : (r s : Rule) → r.family ≡ s.family → r.number ≡ s.number → r ≡ s
same_rule r s family number =
    let made : Family → ℕ → Rule = λ f n. record { family = f; number = n } in
    ap (λ f. made f r.number) family ∙ ap (made s.family) number

same_broken : (a b : Broken) → a.pos ≡ b.pos → a.rule ≡ b.rule → a ≡ b
same_broken a b pos rule =
    let made : Pos → Rule → Broken = λ p r. record { pos = p; rule = r } in
    ap (λ p. made p a.rule) pos ∙ ap (made b.pos) rule

-- the answers of the two comparisons that are made one after the other
then_ranks : (A1 B1 C1 D1 E1 F1 : Type 0) (r s : Ordering) → MatchOrdering r A1 B1 C1 → (B1 → MatchOrdering s D1 E1 F1) → (A1 → D1) → (C1 → F1) → MatchOrdering (ordering_then r s) D1 E1 F1
then_ranks A1 B1 C1 D1 E1 F1 Less s h next less greater = less h
then_ranks A1 B1 C1 D1 E1 F1 Equal s h next less greater = next h
then_ranks A1 B1 C1 D1 E1 F1 Greater s h next less greater = greater h

match_map : (A1 B1 C1 D1 E1 F1 : Type 0) (s : Ordering) → MatchOrdering s A1 B1 C1 → (A1 → D1) → (B1 → E1) → (C1 → F1) → MatchOrdering s D1 E1 F1
match_map A1 B1 C1 D1 E1 F1 Less h less same greater = less h
match_map A1 B1 C1 D1 E1 F1 Equal h less same greater = same h
match_map A1 B1 C1 D1 E1 F1 Greater h less same greater = greater h

pos_of : (p q : Pos) → p.file ≡ q.file → p.offset ≡ q.offset → p ≡ q
pos_of p q file offset =
    let made : ℕ → ℕ → Pos = λ f o. record { file = f; offset = o } in
    ap (λ f. made f p.offset) file ∙ ap (made q.file) offset

abbrev by_place : Pos → Pos → Ordering
by_place p q = ordering_then (nat_cmp p.file q.file) (nat_cmp p.offset q.offset)

place_ranks : (p q : Pos) → MatchOrdering (by_place p q) (IsEarlier p q) (p ≡ q) (IsEarlier q p)
place_ranks p q = then_ranks _ _ _ _ _ _ (nat_cmp p.file q.file) (nat_cmp p.offset q.offset) (ranks p.file q.file)
    (λ file. match_map _ _ _ _ _ _ (nat_cmp p.offset q.offset) (ranks p.offset q.offset) (λ lt. inr (file, lt)) (λ offset. pos_of p q file offset) (λ gt. inr (sym file, gt)))
    inl inl

-- the comparison of the keys
abbrev pub compared : Broken → Broken → Ordering
compared a b = ordering_then (ordering_then (by_place a.pos b.pos) (nat_cmp (rank a.rule) (rank b.rule))) (nat_cmp a.rule.number b.rule.number)

ranked : (a b : Broken) → MatchOrdering (ordering_then (by_place a.pos b.pos) (nat_cmp (rank a.rule) (rank b.rule)))
    (IsEarlier a.pos b.pos ⊎ ((a.pos ≡ b.pos) × (rank a.rule < rank b.rule)))
    ((a.pos ≡ b.pos) × (rank a.rule ≡ rank b.rule))
    (IsEarlier b.pos a.pos ⊎ ((b.pos ≡ a.pos) × (rank b.rule < rank a.rule)))
ranked a b = then_ranks _ _ _ _ _ _ (by_place a.pos b.pos) (nat_cmp (rank a.rule) (rank b.rule)) (place_ranks a.pos b.pos)
    (λ pos. match_map _ _ _ _ _ _ (nat_cmp (rank a.rule) (rank b.rule)) (ranks (rank a.rule) (rank b.rule)) (λ lt. inr (pos, lt)) (λ same. (pos, same)) (λ gt. inr (sym pos, gt)))
    inl inl

by_rank : (a b : Broken) → IsEarlier a.pos b.pos ⊎ ((a.pos ≡ b.pos) × (rank a.rule < rank b.rule)) → IsBefore a b
by_rank a b (inl earlier) = inl earlier
by_rank a b (inr h) = inr (h.0, inl h.1)

before_ranks : (a b : Broken) → MatchOrdering (compared a b) (IsBefore a b) (a ≡ b) (IsBefore b a)
before_ranks a b = then_ranks _ _ _ _ _ _ (ordering_then (by_place a.pos b.pos) (nat_cmp (rank a.rule) (rank b.rule))) (nat_cmp a.rule.number b.rule.number) (ranked a b)
    (λ same. match_map _ _ _ _ _ _ (nat_cmp a.rule.number b.rule.number) (ranks a.rule.number b.rule.number)
    (λ lt. inr (same.0, inr (same.1, lt)))
    (λ number. same_broken a b same.0 (same_rule a.rule b.rule (same_family a.rule b.rule same.1) number))
    (λ gt. inr (sym same.0, inr (sym same.1, gt))))
    (by_rank a b) (by_rank b a)

earlier_irrefl : (p : Pos) → IsEarlier p p → ⊥
earlier_irrefl p (inl lt) = omega (arith, lt)
earlier_irrefl p (inr h) = omega (arith, h.1)

above_irrefl : (r : Rule) → IsAbove r r → ⊥
above_irrefl r (inl lt) = omega (arith, lt)
above_irrefl r (inr h) = omega (arith, h.1)

pub before_irrefl : (a : Broken) → IsBefore a a → ⊥
before_irrefl a (inl earlier) = earlier_irrefl a.pos earlier
before_irrefl a (inr h) = above_irrefl a.rule h.1

earlier_chain : (p q r : Pos) → IsEarlier p q → IsEarlier q r → IsEarlier p r
earlier_chain p q r (inl a) (inl b) = inl (omega (arith, a, b))
earlier_chain p q r (inl a) (inr b) = inl (omega (arith, a, b.0))
earlier_chain p q r (inr a) (inl b) = inl (omega (arith, a.0, b))
earlier_chain p q r (inr a) (inr b) = inr (a.0 ∙ b.0, omega (arith, a.1, b.1))

above_chain : (r s t : Rule) → IsAbove r s → IsAbove s t → IsAbove r t
above_chain r s t (inl a) (inl b) = inl (omega (arith, a, b))
above_chain r s t (inl a) (inr b) = inl (omega (arith, a, b.0))
above_chain r s t (inr a) (inl b) = inl (omega (arith, a.0, b))
above_chain r s t (inr a) (inr b) = inr (a.0 ∙ b.0, omega (arith, a.1, b.1))

pub before_chain : (a b c : Broken) → IsBefore a b → IsBefore b c → IsBefore a c
before_chain a b c (inl x) (inl y) = inl (earlier_chain a.pos b.pos c.pos x y)
before_chain a b c (inl x) (inr y) = inl (subst (IsEarlier a.pos) y.0 x)
before_chain a b c (inr x) (inl y) = inl (subst (λ (p : Pos). IsEarlier p c.pos) (sym x.0) y)
before_chain a b c (inr x) (inr y) = inr (x.0 ∙ y.0, above_chain a.rule b.rule c.rule x.1 y.1)

pub compared_total : IsTotalOrder compared
compared_total = strict IsBefore before_irrefl before_chain compared before_ranks

pub less_before : (a b : Broken) → compared a b ≡ Less → IsBefore a b
less_before a b e = means IsBefore before_irrefl before_chain compared before_ranks a b Less e

-- a list that ascends by the comparison ascends
pub strict_pairs : (xs : List Broken) → IsStrictlySortedBy compared xs → AllPairs IsBefore xs
unfolding IsStrictlySortedBy
strict_pairs [] h = λ i j d lt within. absurd (omega (arith, lt, within))
strict_pairs (x ∷ xs) h = AllPairs-cons IsBefore x xs (All-weaker (λ y. compared x y ≡ Less) (IsBefore x) (λ y e. less_before x y e) xs (All-from_recursion (λ y. compared x y ≡ Less) xs h.0)) (strict_pairs xs h.1)

-- there is one ascending list of given members
pub one_ascending : (a b : List Broken) → AllPairs IsBefore a → AllPairs IsBefore b → ((z : Broken) → Contains a z → Contains b z) → ((z : Broken) → Contains b z → Contains a z) → a ≡ b
one_ascending = ascending_once IsBefore before_irrefl before_chain

refl_eq : (x : Broken) → (broken_eq.TheImpl.ghosts).eq x x ≡ true
refl_eq x = rw (eq-eqb x.pos.file x.pos.file refl, eq-eqb x.pos.offset x.pos.offset refl, true_same family.the_type x.rule.family x.rule.family refl, eq-eqb x.rule.number x.rule.number refl) refl

eq_same : (x y : Broken) → (broken_eq.TheImpl.ghosts).eq x y ≡ true → x ≡ y
eq_same x y e =
    let parts = and_parts (nat_eq x.pos.file y.pos.file && nat_eq x.pos.offset y.pos.offset) _ e in
    let pos = and_parts (nat_eq x.pos.file y.pos.file) _ parts.0 in
    let rule = and_parts (sameb family.the_type x.rule.family y.rule.family) _ parts.1 in
    same_broken x y
    (pos_of x.pos y.pos (eqb-true _ _ pos.0) (eqb-true _ _ pos.1))
    (same_rule x.rule y.rule (same_true family.the_type (search rules) _ _ rule.0) (eqb-true _ _ rule.1))

-- the derived `==` holds of what the comparison does not tell apart
pub eq_ties : (x y : Broken) → (broken_eq.TheImpl.ghosts).eq x y ≡ eq_by_cmp compared x y
eq_ties x y = both_ways ((broken_eq.TheImpl.ghosts).eq x y) (eq_by_cmp compared x y)
    (λ e. ap is_eq (ap (compared x) (sym (eq_same x y e)) ∙ tied_itself compared_total x))
    (λ e. let same : x ≡ y = means IsBefore before_irrefl before_chain compared before_ranks x y Equal ((Equal-is (compared x y)).0 e) in subst (λ (z : Broken). (broken_eq.TheImpl.ghosts).eq x z ≡ true) same (refl_eq x))

pub eq_equivalence : IsEquivalence (broken_eq.TheImpl.ghosts).eq
eq_equivalence = record {
  refl = refl_eq;
  symm = λ x y. both_ways _ _ (λ e. subst (λ (z : Broken). (broken_eq.TheImpl.ghosts).eq z x ≡ true) (eq_same x y e) (refl_eq x)) (λ e. subst (λ (z : Broken). (broken_eq.TheImpl.ghosts).eq z y ≡ true) (eq_same y x e) (refl_eq y));
  congr = λ x y z e. ap (λ (w : Broken). (broken_eq.TheImpl.ghosts).eq w z) (eq_same x y e);
}

-- sorting and leaving out repeats gives the list
pub sorted_list : (found xs : List Broken) → IsPermutation found xs → IsSorted compared xs → IsListOf found (dedup (broken_eq.TheImpl.ghosts).eq xs)
sorted_list found xs moved sorted = record {
  ascending = strict_pairs _ (IsStrictlySortedBy-dedup compared_total eq_ties xs sorted);
  same = λ b. (
    (λ h. Contains-permutation xs found b (IsPermutation-sym found xs moved) (Contains-from_dedup (broken_eq.TheImpl.ghosts).eq xs b h)),
    (λ h. Contains-dedup eq_equivalence eq_same xs b (Contains-permutation found xs b moved h)),
  );
}
