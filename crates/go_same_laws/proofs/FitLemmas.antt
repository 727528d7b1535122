-- Sets that fit, and the pairs of their methods, from one set on to the next; what is told of sets that are the same.
use Rattle.std.proofs.Common.{◌≡◌, ℕ, ◌≤◌, ◌&&◌, ◌||◌, Bool, true, false, if◌then◌else◌, List, [], ◌∷◌, refl, sym, ap, ◌∙◌, arith}
use Rattle.std.specs.Prelude.{nat_le}
use Rattle.std.specs.List.{AllByRecursion, flat_map, list_all, list_any}
use Rattle.std.proofs.lemmas.Bool.Decides.{nat_tests}
use Rattle.std.proofs.lemmas.Cmp.{nat_list_eq_equiv}
use Rattle.go_module.specs.Modules.Paths.{same_text}
use Rattle.go_term.specs.Types.{TypeData}
use Rattle.go_judge.specs.Headers.{Headers}
use Rattle.go_judge.specs.Types.Heads.{same_truth}
use Rattle.go_judge.specs.Types.SetsFit.{has_name, has_names_of, is_all, is_all_by, method_pairs, sets_fit}
use Rattle.go_judge.specs.Types.TypeIdentity.{Test, and_ask, ask_each, fit, methods_fit, same_methods, same_sets, terms_lie}
use Rattle.go_judge.specs.Types.TypeSets.{MethodData, SetData, TermData}
use Rattle.go_judge.specs.Quests.{Decided, Done}
use Rattle.go_same_laws.proofs.EveryLemmas.{every_so, every_with}
use Rattle.go_same_laws.proofs.NormLemmas.{both_true, fit_chain, true_both, truths}
use Rattle.go_same_laws.proofs.SwapLemmas.{if_yes, of_pairs, to_pairs, yes_if}
use Rattle.go_same_laws.proofs.YesLemmas.{IsYes, both_yes, not_no, yes_both}

-- NUMBERS

pub le_is : (a b : ℕ) → nat_le a b ≡ true → a ≤ b
le_is a b e = grind (arith, nat_tests)

pub is_le : (a b : ℕ) → a ≤ b → nat_le a b ≡ true
is_le a b e = grind (arith, nat_tests)

-- NAMES

pub name_as : (m n x : MethodData) → has_name m n ≡ true → has_name m x ≡ has_name n x
name_as m n x e =
    let parts = both_true (same_text m.name n.name) (same_text m.home n.home) e in
    let names = nat_list_eq_equiv.congr m.name n.name x.name parts.0 in
    let homes = nat_list_eq_equiv.congr m.home n.home x.home parts.1 in
    λ i. names i && homes i

any_as : (m n : MethodData) (xs : List MethodData) → has_name m n ≡ true → list_any (has_name m) xs ≡ list_any (has_name n) xs
any_as m n xs e = let same = λ (x : MethodData). name_as m n x e in λ i. list_any (λ (x : MethodData). same x i) xs

pub of_all : {X : Type 0} (p : X → Bool) (xs : List X) → list_all p xs ≡ true → AllByRecursion (λ x. p x ≡ true) xs
of_all p [] e = tt
of_all p (x ∷ xs) e = let parts = both_true (p x) (list_all p xs) e in (parts.0, of_all p xs parts.1)

to_all : {X : Type 0} (p : X → Bool) (xs : List X) → AllByRecursion (λ x. p x ≡ true) xs → list_all p xs ≡ true
to_all p [] all = refl
to_all p (x ∷ xs) all = true_both (p x) (list_all p xs) all.0 (to_all p xs all.1)

-- one of which a test is true, and what holds of each
pub record Picked {X : Type 0} (P : X → Type 0) (p : X → Bool) : Type 0 where
  pub it : X
  pub passes : p it ≡ true
  pub holds : P it

pub pick : {X : Type 0} (P : X → Type 0) (p : X → Bool) (xs : List X) → AllByRecursion P xs → list_any p xs ≡ true → Picked P p
pick P p [] all e = absurd (let wrong : false ≡ true = e in cc wrong)
pick {X} P p (x ∷ xs) all e = at (p x) refl (pick P p xs all.1) e
  where
    at : (b : Bool) → p x ≡ b → (list_any p xs ≡ true → Picked P p) → (b || list_any p xs) ≡ true → Picked P p
    at true f rest e = record { it = x; passes = f; holds = all.0 }
    at false f rest e = rest e

names_chain : (a b c : List MethodData) → has_names_of a b ≡ true → has_names_of b c ≡ true → has_names_of a c ≡ true
names_chain a b c e f =
    let in_a : MethodData → Bool = λ n. list_any (has_name n) a in
    let in_b : MethodData → Bool = λ n. list_any (has_name n) b in
    to_all in_a c
    (every_so (λ n. in_b n ≡ true) (λ n. in_a n ≡ true)
    (λ n there. let one = pick (λ m. in_a m ≡ true) (has_name n) b (of_all in_a b e) there in any_as n one.it a one.passes ∙ one.holds)
    c (of_all in_b c f))

-- SETS THAT FIT

pub record SetsFit (s t : SetData) : Type 0 where
  pub there : has_names_of s.methods t.methods ≡ true
  pub back : has_names_of t.methods s.methods ≡ true
  pub all : is_all s ≡ is_all t
  pub comparable : is_all s ≡ true → s.comparable ≡ t.comparable

where_true : (b c : Bool) → (if b then c else true) ≡ true → b ≡ true → c ≡ true
where_true true c e f = e
where_true false c e f = absurd (let wrong : false ≡ true = f in cc wrong)

true_where : (b c : Bool) → (b ≡ true → c ≡ true) → (if b then c else true) ≡ true
true_where true c so = so refl
true_where false c so = refl

truth_of : (a b : Bool) → a ≡ b → same_truth a b ≡ true
truth_of true b e = sym e
truth_of false true e = absurd (let wrong : false ≡ true = e in cc wrong)
truth_of false false e = refl

pub of_fit : (s t : SetData) → sets_fit s t ≡ true → SetsFit s t
of_fit s t e =
    let names = has_names_of s.methods t.methods && has_names_of t.methods s.methods in
    let rest = if is_all s then same_truth s.comparable t.comparable else true in
    let outer = both_true (names && same_truth (is_all s) (is_all t)) rest e in
    let inner = both_true names (same_truth (is_all s) (is_all t)) outer.0 in
    let both = both_true (has_names_of s.methods t.methods) (has_names_of t.methods s.methods) inner.0 in
    record {
      there = both.0;
      back = both.1;
      all = truths (is_all s) (is_all t) inner.1;
      comparable = λ all. truths s.comparable t.comparable (where_true (is_all s) (same_truth s.comparable t.comparable) outer.1 all);
    }

pub to_fit : (s t : SetData) → SetsFit s t → sets_fit s t ≡ true
to_fit s t parts =
    let names = has_names_of s.methods t.methods && has_names_of t.methods s.methods in
    let rest = if is_all s then same_truth s.comparable t.comparable else true in
    true_both (names && same_truth (is_all s) (is_all t)) rest
    (true_both names (same_truth (is_all s) (is_all t))
    (true_both (has_names_of s.methods t.methods) (has_names_of t.methods s.methods) parts.there parts.back)
    (truth_of (is_all s) (is_all t) parts.all))
    (true_where (is_all s) (same_truth s.comparable t.comparable) (λ all. truth_of s.comparable t.comparable (parts.comparable all)))

pub sets_chain : (s t u : SetData) → SetsFit s t → SetsFit t u → SetsFit s u
sets_chain s t u one two = record {
  there = names_chain s.methods t.methods u.methods one.there two.there;
  back = names_chain u.methods t.methods s.methods two.back one.back;
  all = one.all ∙ two.all;
  comparable = λ all. one.comparable all ∙ two.comparable (sym one.all ∙ all);
}

-- nothing has to hold of each
pub units : (ms : List MethodData) → AllByRecursion (λ m. Unit {0}) ms
units [] = tt
units (m ∷ ms) = (tt, units ms)

module _ (headers : Headers) where
  -- no unions, no terms
  pub no_terms : (test : TermData → Test) (us : List (List TermData)) → is_all_by us ≡ true → IsYes headers (ask_each test (flat_map (λ (u : List TermData). u) us))
  no_terms test [] e = refl
  no_terms test (u ∷ us) e = absurd (let wrong : false ≡ true = e in cc wrong)

  pub done_yes : (b : Bool) → IsYes headers (Done b) → b ≡ true
  done_yes true told = refl
  done_yes false told = absurd (not_no headers told)

  -- PAIRS OF METHODS

  -- of methods that stand beside each other in two lists
  pub pairs_so : (f g : MethodData × MethodData → Test) (P Q : MethodData → Type 0) → ((m n : MethodData) → P m → Q n → IsYes headers (f (m, n)) → IsYes headers (g (m, n)))
      → (ms ns : List MethodData) → AllByRecursion P ms → AllByRecursion Q ns → IsYes headers (ask_each f (method_pairs ms ns)) → IsYes headers (ask_each g (method_pairs ms ns))
  pairs_so f g P Q so ms ns ps qs told =
      let few : MethodData → MethodData → Type 0 = λ m n. has_name m n ≡ true → IsYes headers (f (m, n)) in
      let many : MethodData → MethodData → Type 0 = λ m n. has_name m n ≡ true → IsYes headers (g (m, n)) in
      to_pairs headers g ms ns
      (every_so (λ m. AllByRecursion (few m) ns × P m) (λ m. AllByRecursion (many m) ns)
      (λ m here. every_so (λ n. few m n × Q n) (many m) (λ n there named. so m n here.1 there.1 (there.0 named)) ns (every_with (few m) Q ns here.0 qs))
      ms
      (every_with (λ m. AllByRecursion (few m) ns) P ms (of_pairs headers f ms ns told) ps))

  -- of methods that stand beside one of a list in the middle
  pub pairs_chain : (f g h : MethodData × MethodData → Test) (P Q R : MethodData → Type 0)
      → ((m n p : MethodData) → P m → Q n → R p → IsYes headers (f (m, n)) → IsYes headers (g (n, p)) → IsYes headers (h (m, p)))
      → (ms ns ps : List MethodData) → AllByRecursion P ms → AllByRecursion Q ns → AllByRecursion R ps → has_names_of ns ms ≡ true
      → IsYes headers (ask_each f (method_pairs ms ns)) → IsYes headers (ask_each g (method_pairs ns ps)) → IsYes headers (ask_each h (method_pairs ms ps))
  pairs_chain f g h P Q R chain ms ns ps all_p all_q all_r back told after =
      let one : MethodData → MethodData → Type 0 = λ m n. has_name m n ≡ true → IsYes headers (f (m, n)) in
      let two : MethodData → MethodData → Type 0 = λ n p. has_name n p ≡ true → IsYes headers (g (n, p)) in
      let both : MethodData → MethodData → Type 0 = λ m p. has_name m p ≡ true → IsYes headers (h (m, p)) in
      let in_middle : MethodData → Bool = λ m. list_any (has_name m) ns in
      let middle : AllByRecursion (λ n. AllByRecursion (two n) ps × Q n) ns = every_with (λ n. AllByRecursion (two n) ps) Q ns (of_pairs headers g ns ps after) all_q in
      let each : (m : MethodData) → (AllByRecursion (one m) ns × ((in_middle m ≡ true) × P m)) → AllByRecursion (both m) ps =
      λ m here.
      let found = pick (λ n. one m n × (AllByRecursion (two n) ps × Q n)) (has_name m) ns (every_with (one m) (λ n. AllByRecursion (two n) ps × Q n) ns here.0 middle) here.1.0 in
      let n = found.it in
      every_so (λ p. two n p × R p) (both m)
      (λ p there named. chain m n p here.1.1 found.holds.1.1 there.1 (found.holds.0 found.passes) (there.0 (sym (name_as m n p found.passes) ∙ named)))
      ps
      (every_with (two n) R ps found.holds.1.0 all_r) in
      to_pairs headers h ms ps
      (every_so (λ m. AllByRecursion (one m) ns × ((in_middle m ≡ true) × P m)) (λ m. AllByRecursion (both m) ps) each ms
      (every_with (λ m. AllByRecursion (one m) ns) (λ m. (in_middle m ≡ true) × P m) ms (of_pairs headers f ms ns told)
      (every_with (λ m. in_middle m ≡ true) P ms (of_all in_middle ms back) all_p)))

  abbrev pub fit_yes : List MethodData → List MethodData → Type 0
  fit_yes ms ns = IsYes headers (ask_each (λ p. Done (fit p.0.type p.1.type)) (method_pairs ms ns))

  pub fits_chain : (ms ns ps : List MethodData) → has_names_of ns ms ≡ true → fit_yes ms ns → fit_yes ns ps → fit_yes ms ps
  fits_chain ms ns ps back told after =
      let test : MethodData × MethodData → Test = λ p. Done (fit p.0.type p.1.type) in
      pairs_chain test test test (λ m. Unit {0}) (λ m. Unit {0}) (λ m. Unit {0})
      (λ m n p all_p all_q all_r here there. ap Decided (fit_chain m.type n.type p.type (done_yes (fit m.type n.type) here) (done_yes (fit n.type p.type) there)))
      ms ns ps (units ms) (units ns) (units ps) back told after

  -- WHAT SETS TELL

  -- what sets that are the same have
  module _ (go : Bool → ℕ → TypeData → TypeData → Test) (left : ℕ) (short : Bool) where
    abbrev pub methods_yes : SetData → SetData → Type 0
    methods_yes s t = IsYes headers (ask_each (same_methods go left short) (method_pairs s.methods t.methods))

    pub record SetsTell (s t : SetData) : Type 0 where
      pub fits : SetsFit s t
      pub types : fit_yes s.methods t.methods
      pub methods : methods_yes s t
      pub there : IsYes headers (terms_lie go left short s t)
      pub back : IsYes headers (terms_lie go left short t s)

    pub of_sets : (s t : SetData) → IsYes headers (same_sets go left short s t) → SetsTell s t
    of_sets s t told =
        let types = ask_each (methods_fit go left) (method_pairs s.methods t.methods) in
        let methods = ask_each (same_methods go left short) (method_pairs s.methods t.methods) in
        let there = terms_lie go left short s t in
        let back = terms_lie go left short t s in
        let fits = if_yes headers (sets_fit s t) (and_ask (and_ask types methods) (and_ask there back)) told in
        let both = yes_both headers (and_ask types methods) (and_ask there back) fits.1 in
        let named = yes_both headers types methods both.0 in
        let terms = yes_both headers there back both.1 in
        record { fits = of_fit s t fits.0; types = named.0; methods = named.1; there = terms.0; back = terms.1 }

    pub to_sets : (s t : SetData) → SetsTell s t → IsYes headers (same_sets go left short s t)
    to_sets s t parts =
        let types = ask_each (methods_fit go left) (method_pairs s.methods t.methods) in
        let methods = ask_each (same_methods go left short) (method_pairs s.methods t.methods) in
        let there = terms_lie go left short s t in
        let back = terms_lie go left short t s in
        yes_if headers (sets_fit s t) (and_ask (and_ask types methods) (and_ask there back)) (to_fit s t parts.fits)
        (both_yes headers (and_ask types methods) (and_ask there back) (both_yes headers types methods parts.types parts.methods) (both_yes headers there back parts.there parts.back))
