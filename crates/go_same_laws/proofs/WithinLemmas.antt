-- What a type without objects has: the types of its methods and terms are without objects, and no more names were opened on the
-- way to a term than may be.
use Rattle.std.proofs.Common.{ℕ, zero, suc, ◌≤◌, Bool, true, false, if◌then◌else◌, Option, Some, None, List, [], ◌∷◌, ◌++◌, map, refl, sym, ap, subst, ◌∙◌, arith}
use Rattle.std.specs.Option.{option_map}
use Rattle.std.specs.List.{AllByRecursion}
use Rattle.go_term.specs.declared.basic.Basic.{Basic}
use Rattle.go_term.specs.declared.basic.Basic.TheVariants as B
use Rattle.go_term.specs.Types.{Head, basic, function, interface_type, named, param, method, union, union_term, TypeData, Parts, made, no_parts, more_parts}
use Rattle.go_judge.specs.Headers.{Headers}
use Rattle.go_judge.specs.Types.Forms.{found_in}
use Rattle.go_judge.specs.Types.TypeSets.{MethodData, SetAsked, SetData, TermData, all_types, basic_set, both_sets, either_set, element_set, elements_set, is_interface, joined, method_set, named_set, named_set_by, opened_method, opened_set, opened_term, plain, plain_term_by, set_of, term_set, tilde_set, type_set, union_set, union_term_set}
use Rattle.go_judge.specs.Types.UnderlyingType.{under}
use Rattle.go_judge.specs.Quests.{Decided, Done, then_ask}
use Rattle.go_same_laws.proofs.EveryLemmas.{every_both, every_so, every_to_flat, every_to_map}
use Rattle.go_same_laws.proofs.NormLemmas.{ArePlain, IsPlain, first_plain, parts_plain, plain_twice, rest_plain}
use Rattle.go_same_laws.proofs.SetLemmas.{Finds, both_found, decided_is, none_is, option_found}
use Rattle.go_same_laws.proofs.YesLemmas.{thence}

abbrev pub HasPlain : List MethodData → Type 0
HasPlain ms = AllByRecursion (λ m. IsPlain m.type) ms

-- a term is without objects, and is reached by so many names
abbrev pub IsWithin : ℕ → TermData → Type 0
IsWithin n t = IsPlain t.type × (t.opened ≤ n)

abbrev pub AreWithin : ℕ → List (List TermData) → Type 0
AreWithin n us = AllByRecursion (λ u. AllByRecursion (IsWithin n) u) us

abbrev pub Holds : ℕ → SetData → Type 0
Holds n s = HasPlain s.methods × AreWithin n s.unions

-- SETS THAT ARE JOINED

both_keeps : (n : ℕ) (a b : SetData) → Holds n a → Holds n b → Holds n (both_sets a b)
both_keeps n a b first second = (
  every_both (λ (m : MethodData). IsPlain m.type) a.methods b.methods first.0 second.0,
  every_both (λ (u : List TermData). AllByRecursion (IsWithin n) u) a.unions b.unions first.1 second.1,
)

either_keeps : (n : ℕ) (a b : SetData) → Holds n a → Holds n b → Holds n (either_set a b)
either_keeps n a b first second =
    let P : List TermData → Type 0 = λ u. AllByRecursion (IsWithin n) u in
    let beside : (u : List TermData) → P u → AllByRecursion P (map (λ v. u ++ v) b.unions) =
    λ u here. every_to_map P (λ v. u ++ v) b.unions (every_so P (λ v. P (u ++ v)) (λ v there. every_both (IsWithin n) u v here there) b.unions second.1) in
    (tt, every_to_flat P (λ u. map (λ v. u ++ v) b.unions) a.unions (every_so P (λ u. AllByRecursion P (map (λ v. u ++ v) b.unions)) beside a.unions first.1))

opened_keeps : (n : ℕ) (s : SetData) → Holds n s → Holds (suc n) (opened_set s)
opened_keeps n s all = (methods s.methods all.0, every_to_map (λ u. AllByRecursion (IsWithin (suc n)) u) (map opened_term) s.unions (every_so (λ u. AllByRecursion (IsWithin n) u) (λ u. AllByRecursion (IsWithin (suc n)) (map opened_term u)) terms s.unions all.1))
  where
    methods : (ms : List MethodData) → HasPlain ms → HasPlain (map opened_method ms)
    methods [] all = tt
    methods (m ∷ ms) all = (all.0, methods ms all.1)

    terms : (ts : List TermData) → AllByRecursion (IsWithin n) ts → AllByRecursion (IsWithin (suc n)) (map opened_term ts)
    terms [] all = tt
    terms (t ∷ ts) all = ((all.0.0, let le : t.opened ≤ n = all.0.1 in omega arith), terms ts all.1)

-- SETS OF ONE TYPE

one_term : (n : ℕ) (tilde : Bool) (t : TypeData) → IsPlain t → Holds n (term_set tilde t)
one_term n tilde t e = (tt, (((e, omega arith), tt), tt))

basic_holds : (n : ℕ) (b : Basic) → Holds n (basic_set b)
basic_holds n B.Error = ((refl, tt), tt)
basic_holds n B.Comparable = (tt, tt)
basic_holds n b = (tt, (((refl, omega arith), tt), tt))

module _ (headers : Headers) where
  abbrev pub Gives : ℕ → SetAsked → Type 0
  Gives n q = (s : SetData) → Finds headers q s → Holds n s

  gives : (n : ℕ) (u : SetData) → Holds n u → Gives n (Done (Some u))
  gives n u all s e = subst (Holds n) (decided_is u s e) all

  joined_gives : (n : ℕ) (join : SetData → SetData → SetData) → ((a b : SetData) → Holds n a → Holds n b → Holds n (join a b)) → (a b : SetAsked) → Gives n a → Gives n b → Gives n (joined join a b)
  joined_gives n join keeps a b first second s e =
      let both = both_found headers join a b s e in
      subst (Holds n) (sym both.is) (keeps both.one both.other (first both.one both.is_one) (second both.other both.is_other))

  -- opening gives so much of what is opened
  module _ (n : ℕ) (opening : TypeData → SetAsked) (opens : (u : TypeData) → Gives n (then_ask (opening (plain u)) (λ s. Done (option_map opened_set s)))) where
    opened_gives : (b : Bool) (t u : TypeData) → IsPlain t → Gives n (if b then then_ask (opening (plain u)) (λ s. Done (option_map opened_set s)) else Done (Some (term_set false t)))
    opened_gives true t u e = opens u
    opened_gives false t u e = gives n (term_set false t) (one_term n false t e)

    named_by_gives : (t : TypeData) (o : Option TypeData) → IsPlain t → Gives n (named_set_by opening t o)
    named_by_gives t (Some u) e = opened_gives (is_interface u) t u e
    named_by_gives t None e = λ s f. absurd (none_is s f)

    named_gives : (t : TypeData) → IsPlain t → Gives n (named_set opening t)
    named_gives t plainly s e =
        let one = thence headers (under t) (λ reach. named_set_by opening t (found_in reach)) (Some s) e in
        named_by_gives t (found_in one.answer) plainly s one.second

    term_gives : (head : Head) (a : SetAsked) (t : TypeData) → IsPlain t → Gives n a → Gives n (plain_term_by opening a head t)
    term_gives interface_type a t e elements = elements
    term_gives (basic k) a t e elements = gives n (basic_set k) (basic_holds n k)
    term_gives (named d) a t e elements = named_gives t e
    term_gives (param d i) a t e elements = named_gives t e
    term_gives head a t e elements = gives n (term_set false t) (one_term n false t e)

    tilde_gives : (t : TypeData) → IsPlain t → Gives n (tilde_set opening t)
    tilde_gives (made (param d i) parts) e = named_gives (made (param d i) parts) e
    tilde_gives (made head parts) e = gives n (term_set true (made head parts)) (one_term n true (made head parts) e)

    mutual
      elements_give : (ts : Parts) → ArePlain ts → Gives n (elements_set opening ts)
      elements_give no_parts e = gives n all_types (tt, tt)
      elements_give (more_parts t ts) e = joined_gives n both_sets (both_keeps n) (element_set opening t) (elements_set opening ts) (element_gives t (first_plain t ts e)) (elements_give ts (rest_plain t ts e))

      element_gives : (t : TypeData) → IsPlain t → Gives n (element_set opening t)
      element_gives (made (method m) parts) e = gives n (method_set m parts) ((ap (made (function m.variadic)) (parts_plain (method m) parts e), tt), tt)
      element_gives (made union terms) e = union_gives terms (parts_plain union terms e)
      element_gives (made head parts) e = gives n all_types (tt, tt)

      union_gives : (ts : Parts) → ArePlain ts → Gives n (union_set opening ts)
      union_gives no_parts e = gives n all_types (tt, tt)
      union_gives (more_parts t no_parts) e = union_term_gives t (first_plain t no_parts e)
      union_gives (more_parts t (more_parts u us)) e =
          joined_gives n either_set (either_keeps n) (union_term_set opening t) (union_set opening (more_parts u us))
          (union_term_gives t (first_plain t (more_parts u us) e)) (union_gives (more_parts u us) (rest_plain t (more_parts u us) e))

      union_term_gives : (t : TypeData) → IsPlain t → Gives n (union_term_set opening t)
      union_term_gives (made (union_term true) (more_parts t no_parts)) e = tilde_gives t (first_plain t no_parts (parts_plain (union_term true) (more_parts t no_parts) e))
      union_term_gives (made (union_term false) (more_parts t no_parts)) e = type_gives t (first_plain t no_parts (parts_plain (union_term false) (more_parts t no_parts) e))
      union_term_gives (made head parts) e = gives n all_types (tt, tt)

      pub type_gives : (t : TypeData) → IsPlain t → Gives n (type_set opening t)
      type_gives (made head parts) e = term_gives head (elements_set opening parts) (made head parts) e (elements_give parts (parts_plain head parts e))

  opened_one : (n : ℕ) → ((t : TypeData) → IsPlain t → Gives n (set_of n t)) → (u : TypeData) → Gives (suc n) (then_ask (set_of n (plain u)) (λ s. Done (option_map opened_set s)))
  opened_one n below u s e =
      let one = thence headers (set_of n (plain u)) (λ s. Done (option_map opened_set s)) (Some s) e in
      let found = option_found headers one.answer s one.second in
      subst (Holds (suc n)) (sym found.1.1) (opened_keeps n found.0 (below (plain u) (plain_twice u) found.0 (one.first ∙ ap Decided found.1.0)))

  pub set_plain : (n : ℕ) (t : TypeData) → IsPlain t → Gives n (set_of n t)
  set_plain zero = type_gives zero (λ t. Done None) (λ u s e. absurd (none_is s e))
  set_plain (suc n) = type_gives (suc n) (set_of n) (opened_one n (set_plain n))
