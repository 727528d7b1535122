-- What an interface has, as a question: that more names may be opened changes no set that is found.
use Rattle.std.proofs.Common.{◌≡◌, ℕ, zero, suc, ◌+◌, Bool, true, false, if◌then◌else◌, Option, Some, None, refl, sym, ap, subst, ◌∙◌, arith}
use Rattle.std.specs.Option.{option_map}
use Rattle.go_term.specs.Types.{Head, basic, interface_type, named, param, method, union, union_term, TypeData, Parts, made, no_parts, more_parts}
use Rattle.go_judge.specs.Headers.{Headers}
use Rattle.go_judge.specs.Types.Forms.{found_in}
use Rattle.go_judge.specs.Types.TypeSets.{SetAsked, SetData, both_sets, either_set, element_set, elements_set, is_interface, joined, joined_to, named_set, named_set_by, opened_set, plain, plain_term_by, set_of, term_set, tilde_set, type_set, union_set, union_term_set}
use Rattle.go_judge.specs.Types.UnderlyingType.{under}
use Rattle.go_judge.specs.Quests.{Decided, Done, run, then_ask}
use Rattle.go_same_laws.proofs.YesLemmas.{hence, thence}

pub decided_is : (a b : SetData) → Decided (Some a) ≡ Decided (Some b) → a ≡ b
decided_is a b e = cc e

pub none_is : (s : SetData) → Decided None ≡ Decided (Some s) → ⊥
none_is s e = cc e

module _ (headers : Headers) where
  abbrev pub Finds : SetAsked → SetData → Type 0
  Finds q s = run headers q ≡ Decided (Some s)

  -- what is found by the one question is found by the other
  abbrev pub Grows : SetAsked → SetAsked → Type 0
  Grows q r = (s : SetData) → Finds q s → Finds r s

  -- both are found where their join is
  pub record BothFound (join : SetData → SetData → SetData) (a b : SetAsked) (s : SetData) : Type 0 where
    pub one : SetData
    pub other : SetData
    pub is_one : Finds a one
    pub is_other : Finds b other
    pub is : s ≡ join one other

  pub both_found : (join : SetData → SetData → SetData) (a b : SetAsked) (s : SetData) → Finds (joined join a b) s → BothFound join a b s
  both_found join a b s e =
      let first = thence headers a (joined_to join b) (Some s) e in
      first_found first.answer first.first first.second
    where
      second_found : (x : SetData) → Finds a x → (o : Option SetData) → run headers b ≡ Decided o → Decided (option_map (join x) o) ≡ Decided (Some s) → BothFound join a b s
      second_found x one (Some y) other found = record { one = x; other = y; is_one = one; is_other = other; is = sym (decided_is (join x y) s found) }
      second_found x one None other found = absurd (none_is s found)

      first_found : (o : Option SetData) → run headers a ≡ Decided o → run headers (joined_to join b o) ≡ Decided (Some s) → BothFound join a b s
      first_found (Some x) one found =
          let next = thence headers b (λ o. Done (option_map (join x) o)) (Some s) found in
          second_found x one next.answer next.first next.second
      first_found None one found = absurd (none_is s found)

  joined_grows : (join : SetData → SetData → SetData) (a b c d : SetAsked) → Grows a c → Grows b d → Grows (joined join a b) (joined join c d)
  joined_grows join a b c d first second s e =
      let both = both_found join a b s e in
      hence headers c (joined_to join d) (Some both.one) (Some s) (first both.one both.is_one)
      (hence headers d (λ o. Done (option_map (join both.one) o)) (Some both.other) (Some s) (second both.other both.is_other)
      (λ i. Decided (Some (sym both.is i))))

  pub option_found : (o : Option SetData) (s : SetData) → Decided (option_map opened_set o) ≡ Decided (Some s) → (u : SetData) × ((o ≡ Some u) × (s ≡ opened_set u))
  option_found (Some u) s e = (u, (refl, sym (decided_is (opened_set u) s e)))
  option_found None s e = absurd (none_is s e)

  module _ (fewer more : TypeData → SetAsked) (grows : (t : TypeData) → Grows (fewer t) (more t)) where
    opened_grows : (b : Bool) (t u : TypeData)
        → Grows (if b then then_ask (fewer (plain u)) (λ s. Done (option_map opened_set s)) else Done (Some (term_set false t)))
        (if b then then_ask (more (plain u)) (λ s. Done (option_map opened_set s)) else Done (Some (term_set false t)))
    opened_grows true t u s e =
        let one = thence headers (fewer (plain u)) (λ s. Done (option_map opened_set s)) (Some s) e in
        let found = option_found one.answer s one.second in
        hence headers (more (plain u)) (λ s. Done (option_map opened_set s)) (Some found.0) (Some s)
        (grows (plain u) found.0 (one.first ∙ ap Decided found.1.0))
        (λ i. Decided (Some (sym found.1.1 i)))
    opened_grows false t u s e = e

    named_by_grows : (t : TypeData) (o : Option TypeData) → Grows (named_set_by fewer t o) (named_set_by more t o)
    named_by_grows t (Some u) = opened_grows (is_interface u) t u
    named_by_grows t None = λ s e. e

    named_grows : (t : TypeData) → Grows (named_set fewer t) (named_set more t)
    named_grows t s e =
        let one = thence headers (under t) (λ reach. named_set_by fewer t (found_in reach)) (Some s) e in
        hence headers (under t) (λ reach. named_set_by more t (found_in reach)) one.answer (Some s) one.first (named_by_grows t (found_in one.answer) s one.second)

    term_grows : (head : Head) (a b : SetAsked) (t : TypeData) → Grows a b → Grows (plain_term_by fewer a head t) (plain_term_by more b head t)
    term_grows interface_type a b t elements = elements
    term_grows (basic k) a b t elements = λ s e. e
    term_grows (named d) a b t elements = named_grows t
    term_grows (param d i) a b t elements = named_grows t
    term_grows head a b t elements = λ s e. e

    tilde_grows : (t : TypeData) → Grows (tilde_set fewer t) (tilde_set more t)
    tilde_grows (made (param d i) parts) = named_grows (made (param d i) parts)
    tilde_grows (made head parts) = λ s e. e

    mutual
      elements_grow : (ts : Parts) → Grows (elements_set fewer ts) (elements_set more ts)
      elements_grow no_parts = λ s e. e
      elements_grow (more_parts t ts) = joined_grows both_sets (element_set fewer t) (elements_set fewer ts) (element_set more t) (elements_set more ts) (element_grows t) (elements_grow ts)

      element_grows : (t : TypeData) → Grows (element_set fewer t) (element_set more t)
      element_grows (made (method m) parts) = λ s e. e
      element_grows (made union terms) = union_grows terms
      element_grows (made head parts) = λ s e. e

      union_grows : (ts : Parts) → Grows (union_set fewer ts) (union_set more ts)
      union_grows no_parts = λ s e. e
      union_grows (more_parts t no_parts) = union_term_grows t
      union_grows (more_parts t (more_parts u us)) =
          joined_grows either_set (union_term_set fewer t) (union_set fewer (more_parts u us)) (union_term_set more t) (union_set more (more_parts u us)) (union_term_grows t) (union_grows (more_parts u us))

      union_term_grows : (t : TypeData) → Grows (union_term_set fewer t) (union_term_set more t)
      union_term_grows (made (union_term true) (more_parts t no_parts)) = tilde_grows t
      union_term_grows (made (union_term false) (more_parts t no_parts)) = type_grows t
      union_term_grows (made head parts) = λ s e. e

      pub type_grows : (t : TypeData) → Grows (type_set fewer t) (type_set more t)
      type_grows (made head parts) = term_grows head (elements_set fewer parts) (elements_set more parts) (made head parts) (elements_grow parts)

  set_grows : (n : ℕ) (t : TypeData) → Grows (set_of n t) (set_of (suc n) t)
  set_grows zero = type_grows (λ t. Done None) (set_of zero) (λ t s e. absurd (none_is s e))
  set_grows (suc n) = type_grows (set_of n) (set_of (suc n)) (set_grows n)

  -- where more names may be opened
  pub set_more : (k n : ℕ) (t : TypeData) → Grows (set_of n t) (set_of (n + k) t)
  set_more zero n t s e = let same : n ≡ n + 0 = omega arith in subst (λ m. Finds (set_of m t) s) same e
  set_more (suc k) n t s e = let same : suc (n + k) ≡ n + suc k = omega arith in subst (λ m. Finds (set_of m t) s) same (set_grows (n + k) t s (set_more k n t s e))

  -- there is one set, however many names may be opened
  pub found_once : (m n : ℕ) (t : TypeData) (s u : SetData) → Finds (set_of m t) s → Finds (set_of n t) u → s ≡ u
  found_once m n t s u first second =
      let sum : n + m ≡ m + n = omega arith in
      decided_is s u (sym (set_more n m t s first) ∙ subst (λ k. Finds (set_of k t) u) sum (set_more m n t u second))
