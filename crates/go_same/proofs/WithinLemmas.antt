-- How many names are opened on the way to each method and term of a set: no more than may be.
use Rattle.std.proofs.Common.{◌≡◌, ℕ, zero, suc, ◌+◌, ◌≤◌, ◌<◌, ◌^◌, Bool, true, false, if◌then◌else◌, Option, None, Some, List, [], ◌∷◌, ◌++◌, map, sym, subst, arith, Vec, Global}
use Rattle.std.specs.List.{AllByRecursion}
use Rattle.std.specs.Option.{option_map}
use Rattle.std.proofs.lemmas.List.Concat.{flat_map-cons}
use Rattle.go_term.specs.Types.{Head, interface_type, basic, named, param, method, union, union_term, TypeData, Parts, made, no_parts, more_parts}
use Rattle.go_term.specs.declared.basic.Basic.{Basic}
use Rattle.go_term.specs.declared.basic.Basic.TheVariants as B
use Rattle.go_term.specs.declared.term.Term.{Term}
use Rattle.go_judge.specs.Headers.{Headers}
use Rattle.go_judge.specs.Types.Forms.{found_in}
use Rattle.go_judge.specs.Types.TypeSets.{MethodData, SetAsked, SetData, TermData, basic_set, both_sets, either_set, either_unions, element_set, elements_set, is_interface, named_set, named_set_by, opened_method, opened_set, opened_term, plain, plain_term_by, set_of, term_set, tilde_set, type_set, union_set, union_term_set}
use Rattle.go_judge.specs.Types.UnderlyingType.{Reach, under}
use Rattle.go_judge.specs.Quests.{Asked, Decided, Lacks, Done, run, then_ask}
use Rattle.go_same.specs.Collect.{IsRaisableFound, asked_joined, asked_then}
use Rattle.go_same.specs.Joins.{IsRaisable}
use Rattle.go_same.specs.Sets.{found_as, method_view, part_view, set_view}
use Rattle.go_same.specs.declared.set.FoundSet.{FoundSet}
use Rattle.go_same.specs.declared.set.FoundSet.TheVariants as F
use Rattle.go_same.specs.declared.set.Method.{Method}
use Rattle.go_same.specs.declared.set.TypeSet.{TypeSet}
use Rattle.go_same.specs.declared.set.UnionPart.{UnionPart}
use Rattle.go_same.proofs.CollectLemmas.{run-joined, run-then}
use Rattle.go_same.proofs.KeepLemmas.{all-joined}

abbrev AreWithin : ℕ → List TermData → Type 0
AreWithin n ts = AllByRecursion (λ t. t.opened ≤ n) ts

abbrev SetWithin : ℕ → SetData → Type 0
SetWithin n s = AllByRecursion (λ m. m.opened ≤ n) s.methods × AllByRecursion (AreWithin n) s.unions

abbrev Within : ℕ → Asked (Option SetData) → Type 0
Within n (Decided (Some s)) = SetWithin n s
Within n asked = Unit {0}

both-within : (n : ℕ) (x y : Asked (Option SetData)) → Within n x → Within n y → Within n (asked_joined both_sets x y)
both-within n (Lacks d) y p q = tt
both-within n (Decided None) y p q = tt
both-within n (Decided (Some a)) (Lacks d) p q = tt
both-within n (Decided (Some a)) (Decided None) p q = tt
both-within n (Decided (Some a)) (Decided (Some b)) p q = (all-joined _ a.methods b.methods p.0 q.0, all-joined _ a.unions b.unions p.1 q.1)

beside-within : (n : ℕ) (u : List TermData) (vs : List (List TermData)) → AreWithin n u → AllByRecursion (AreWithin n) vs → AllByRecursion (AreWithin n) (map (λ v. u ++ v) vs)
beside-within n u [] p q = tt
beside-within n u (v ∷ vs) p q = (all-joined (λ t. t.opened ≤ n) u v p q.0, beside-within n u vs p q.1)

unions-within : (n : ℕ) (us vs : List (List TermData)) → AllByRecursion (AreWithin n) us → AllByRecursion (AreWithin n) vs → AllByRecursion (AreWithin n) (either_unions us vs)
unions-within n [] vs p q = tt
unions-within n (u ∷ us) vs p q =
    subst (AllByRecursion (AreWithin n)) (sym (flat_map-cons (λ u. map (λ v. u ++ v) vs) u us))
    (all-joined (AreWithin n) (map (λ v. u ++ v) vs) (either_unions us vs) (beside-within n u vs p.0 q) (unions-within n us vs p.1 q))

either-within : (n : ℕ) (x y : Asked (Option SetData)) → Within n x → Within n y → Within n (asked_joined either_set x y)
either-within n (Lacks d) y p q = tt
either-within n (Decided None) y p q = tt
either-within n (Decided (Some a)) (Lacks d) p q = tt
either-within n (Decided (Some a)) (Decided None) p q = tt
either-within n (Decided (Some a)) (Decided (Some b)) p q = (tt, unions-within n a.unions b.unions p.1 q.1)

none : (n : ℕ) → 0 ≤ n
none n = omega arith

basic-within : (n : ℕ) (b : Basic) → SetWithin n (basic_set b)
basic-within n B.Error = ((none n, tt), tt)
basic-within n B.Comparable = (tt, tt)
basic-within n b = (tt, ((none n, tt), tt))

module _ (known : Headers) (opening : TypeData → SetAsked) (n : ℕ)
    (opens : (t : TypeData) → Within n (run known (then_ask (opening t) (λ s. Done (option_map opened_set s))))) where
  by-within : (t : TypeData) (o : Option TypeData) → Within n (run known (named_set_by opening t o))
  by-within t None = tt
  by-within t (Some u) = go (is_interface u)
    where
      go : (b : Bool) → Within n (run known (if b then then_ask (opening (plain u)) (λ s. Done (option_map opened_set s)) else Done (Some (term_set false t))))
      go true = opens (plain u)
      go false = (tt, ((none n, tt), tt))

  named-within : (t : TypeData) → Within n (run known (named_set opening t))
  named-within t = subst (Within n) (sym (run-then known (under t) (λ reach. named_set_by opening t (found_in reach)))) (go (run known (under t)))
    where
      go : (x : Asked Reach) → Within n (asked_then x (λ reach. run known (named_set_by opening t (found_in reach))))
      go (Decided reach) = by-within t (found_in reach)
      go (Lacks d) = tt

  head-within : (elements : SetAsked) → Within n (run known elements) → (h : Head) (t : TypeData) → Within n (run known (plain_term_by opening elements h t))
  head-within elements p interface_type t = p
  head-within elements p (basic b) t = basic-within n b
  head-within elements p (named d) t = named-within t
  head-within elements p (param d i) t = named-within t
  head-within elements p h t = (tt, ((none n, tt), tt))

  tilde-within : (t : TypeData) → Within n (run known (tilde_set opening t))
  tilde-within (made (param d i) ps) = named-within (made (param d i) ps)
  tilde-within (made h ps) = (tt, ((none n, tt), tt))

  mutual
    elements-within : (ps : Parts) → Within n (run known (elements_set opening ps))
    elements-within no_parts = (tt, tt)
    elements-within (more_parts e es) = subst (Within n) (sym (run-joined known both_sets (element_set opening e) (elements_set opening es))) (both-within n (run known (element_set opening e)) (run known (elements_set opening es)) (element-within e) (elements-within es))

    element-within : (t : TypeData) → Within n (run known (element_set opening t))
    element-within (made (method m) ps) = ((none n, tt), tt)
    element-within (made union ps) = union-within ps
    element-within (made h ps) = (tt, tt)

    union-within : (ps : Parts) → Within n (run known (union_set opening ps))
    union-within no_parts = (tt, tt)
    union-within (more_parts u no_parts) = term-within u
    union-within (more_parts u (more_parts v vs)) = subst (Within n) (sym (run-joined known either_set (union_term_set opening u) (union_set opening (more_parts v vs)))) (either-within n (run known (union_term_set opening u)) (run known (union_set opening (more_parts v vs))) (term-within u) (union-within (more_parts v vs)))

    term-within : (t : TypeData) → Within n (run known (union_term_set opening t))
    term-within (made (union_term true) (more_parts t no_parts)) = tilde-within t
    term-within (made (union_term false) (more_parts t no_parts)) = type-within t
    term-within (made h ps) = (tt, tt)

    pub type-within : (t : TypeData) → Within n (run known (type_set opening t))
    type-within (made h ps) = head-within (elements_set opening ps) (elements-within ps) h (made h ps)

methods-opened : (n : ℕ) (ms : List MethodData) → AllByRecursion (λ m. m.opened ≤ n) ms → AllByRecursion (λ m. m.opened ≤ suc n) (map opened_method ms)
methods-opened n [] p = tt
methods-opened n (m ∷ ms) p = (let le : m.opened ≤ n = p.0 in omega arith, methods-opened n ms p.1)

terms-opened : (n : ℕ) (ts : List TermData) → AreWithin n ts → AreWithin (suc n) (map opened_term ts)
terms-opened n [] p = tt
terms-opened n (t ∷ ts) p = (let le : t.opened ≤ n = p.0 in omega arith, terms-opened n ts p.1)

unions-opened : (n : ℕ) (us : List (List TermData)) → AllByRecursion (AreWithin n) us → AllByRecursion (AreWithin (suc n)) (map (map opened_term) us)
unions-opened n [] p = tt
unions-opened n (u ∷ us) p = (terms-opened n u p.0, unions-opened n us p.1)

asked-opened : (n : ℕ) (x : Asked (Option SetData)) → Within n x → Within (suc n) (asked_then x (λ s. Decided (option_map opened_set s)))
asked-opened n (Lacks d) p = tt
asked-opened n (Decided None) p = tt
asked-opened n (Decided (Some s)) p = (methods-opened n s.methods p.0, unions-opened n s.unions p.1)

set-within : (known : Headers) (n : ℕ) (t : TypeData) → Within n (run known (set_of n t))
set-within known zero t = type-within known (λ t. Done None) zero (λ t. tt) t
set-within known (suc n) t = type-within known (set_of n) (suc n) (λ u. subst (Within (suc n)) (sym (run-then known (set_of n u) (λ s. Done (option_map opened_set s)))) (asked-opened n (run known (set_of n u)) (set-within known n u))) t

-- the set that is found can be one name deeper
module _ (tree : Term → TypeData) (n : ℕ) (small : n + 1 < 2 ^ 32) where
  raise-methods : (s : TypeSet) → SetWithin n (set_view tree s) → IsRaisable s
  raise-methods s p = (methods s.methods.items p.0, unions s.unions.items p.1)
    where
      methods : (ms : List Method) → AllByRecursion (λ m. m.opened ≤ n) (map (method_view tree) ms) → AllByRecursion (λ m. m.opened + 1 < 2 ^ 32) ms
      methods [] p = tt
      methods (m ∷ ms) p = (let le : m.opened ≤ n = p.0 in omega arith, methods ms p.1)

      parts : (ps : List UnionPart) → AreWithin n (map (part_view tree) ps) → AllByRecursion (λ p. p.opened + 1 < 2 ^ 32) ps
      parts [] p = tt
      parts (x ∷ ps) p = (let le : x.opened ≤ n = p.0 in omega arith, parts ps p.1)

      unions : (us : List (Vec UnionPart Global)) → AllByRecursion (AreWithin n) (map (λ u. map (part_view tree) u.items) us) → AllByRecursion (λ u. AllByRecursion (λ p. p.opened + 1 < 2 ^ 32) u.items) us
      unions [] p = tt
      unions (u ∷ us) p = (parts u.items p.0, unions us p.1)

  pub found-raisable : (known : Headers) (t : TypeData) (found : FoundSet) → found_as tree found ≡ run known (set_of n t) → IsRaisableFound found
  found-raisable known t (F.Is s) e = raise-methods s (subst (Within n) (sym e) (set-within known n t))
  found-raisable known t F.Absent e = tt
  found-raisable known t (F.Unknown d) e = tt
