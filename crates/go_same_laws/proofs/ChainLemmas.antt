-- Type identity without unions: where more names may be opened it stays, and it chains, with as many names opened as on both ways.
use Rattle.std.proofs.Common.{◌≡◌, ℕ, zero, suc, ◌+◌, ◌-◌, ◌≤◌, Bool, true, false, Some, refl, sym, subst, ◌∙◌, arith}
use Rattle.std.specs.Prelude.{nat_le}
use Rattle.std.specs.List.{AllByRecursion}
use Rattle.go_term.specs.Types.{TypeData}
use Rattle.go_judge.specs.Headers.{Headers}
use Rattle.go_judge.specs.Types.Heads.{alike}
use Rattle.go_judge.specs.Types.SetsFit.{is_all}
use Rattle.go_judge.specs.Types.TypeIdentity.{Test, ask_each, fit, interfaces_in, same, same_interfaces, same_methods, same_sets}
use Rattle.go_judge.specs.Types.TypeSets.{MethodData, SetData, set_of}
use Rattle.go_judge.specs.Quests.{Decided, run}
use Rattle.go_same_laws.specs.Laws.{HasNoUnions}
use Rattle.go_same_laws.proofs.AlikeLemmas.{fit_itself}
use Rattle.go_same_laws.proofs.EveryLemmas.{every_with}
use Rattle.go_same_laws.proofs.FitLemmas.{SetsFit, fit_yes, fits_chain, is_le, le_is, methods_yes, no_terms, of_sets, pairs_chain, pairs_so, sets_chain, to_sets, units}
use Rattle.go_same_laws.proofs.NormLemmas.{IsPlain, fit_chain, plain_is}
use Rattle.go_same_laws.proofs.PlaceLemmas.{ArePlainPair, IsTwice, chain_interfaces, plain_places, twice_places}
use Rattle.go_same_laws.proofs.SetLemmas.{Finds, found_once, set_more}
use Rattle.go_same_laws.proofs.SwapLemmas.{SetsFound, asked_sets, if_yes, interface_swap, of_asked, or_yes, same_swap, to_asked, yes_if, yes_or}
use Rattle.go_same_laws.proofs.WithinLemmas.{set_plain}
use Rattle.go_same_laws.proofs.YesLemmas.{IsYes, each_yes, yes_each}

module _ (headers : Headers) where
  abbrev NoUnionsAt : ℕ → TypeData → Type 0
  NoUnionsAt levels a = (n : ℕ) (s : SetData) → run headers (set_of n a) ≡ Decided (Some s) → (is_all s ≡ true) × AllByRecursion (λ m. HasNoUnions headers levels m.type) s.methods

  abbrev NoUnionsBoth : ℕ → TypeData × TypeData → Type 0
  NoUnionsBoth levels p = NoUnionsAt levels p.0

  -- what is told of sets without unions
  module _ (go : Bool → ℕ → TypeData → TypeData → Test) (left : ℕ) where
    sets_without : (s t : SetData) → is_all s ≡ true → SetsFit s t → fit_yes headers s.methods t.methods → methods_yes headers go left false s t → IsYes headers (same_sets go left false s t)
    sets_without s t all fits types methods =
        to_sets headers go left false s t (record {
          fits = fits;
          types = types;
          methods = methods;
          there = no_terms headers _ s.unions all;
          back = no_terms headers _ t.unions (sym fits.all ∙ all);
        })

  -- MORE NAMES

  abbrev plain_method : MethodData → Type 0
  plain_method m = IsPlain m.type

  abbrev free_method : ℕ → MethodData → Type 0
  free_method levels m = HasNoUnions headers levels m.type

  -- what go tells it tells where more names may be opened
  module _ (levels : ℕ) (go : Bool → ℕ → TypeData → TypeData → Test)
      (more : (left k : ℕ) (a b : TypeData) → HasNoUnions headers levels a → IsYes headers (go false left a b) → IsYes headers (go false (left + k) a b)) where
    method_more : (left k : ℕ) (m n : MethodData) → free_method levels m → Unit {0} → IsYes headers (same_methods go left false (m, n)) → IsYes headers (same_methods go (left + k) false (m, n))
    method_more left k m n none any told =
        let opened = m.opened + n.opened in
        let parts = if_yes headers (nat_le opened left) (go false (left - opened) m.type n.type) told in
        let within : opened ≤ left = le_is opened left parts.0 in
        let wider : opened ≤ left + k = omega arith in
        let rest : (left - opened) + k ≡ (left + k) - opened = omega arith in
        yes_if headers (nat_le opened (left + k)) (go false ((left + k) - opened) m.type n.type) (is_le opened (left + k) wider)
        (subst (λ l. IsYes headers (go false l m.type n.type)) rest (more (left - opened) k m.type n.type none parts.1))

    asked_more : (left k : ℕ) (a b : TypeData) → NoUnionsAt levels a → SetsFound headers go left a b → SetsFound headers go (left + k) a b
    asked_more left k a b none found =
        let s = found.one in
        let t = found.other in
        let parts = of_sets headers go left false s t found.told in
        let free = none left s found.is_one in
        let methods = pairs_so headers (same_methods go left false) (same_methods go (left + k) false) (free_method levels) (λ m. Unit {0}) (method_more left k)
        s.methods t.methods free.1 (units t.methods) parts.methods in
        record {
          one = s;
          other = t;
          is_one = set_more headers k left a s found.is_one;
          is_other = set_more headers k left b t found.is_other;
          told = sets_without go (left + k) s t free.0 parts.fits parts.types methods;
        }

    interface_more : (left k : ℕ) (a b : TypeData) → NoUnionsAt levels a → IsYes headers (same_interfaces go left false (a, b)) → IsYes headers (same_interfaces go (left + k) false (a, b))
    interface_more left k a b none told =
        yes_or headers (alike a b) (asked_sets headers go (left + k) a b) (λ other.
        to_asked headers go (left + k) a b (asked_more left k a b none
        (of_asked headers go left a b (or_yes headers (alike a b) (asked_sets headers go left a b) other told))))

  pub same_more : (levels left k : ℕ) (a b : TypeData) → HasNoUnions headers levels a → IsYes headers (same levels false left a b) → IsYes headers (same levels false (left + k) a b)
  same_more zero left k a b none told = told
  same_more (suc levels) left k a b none told =
      let test = same_interfaces (same levels) left false in
      let wider = same_interfaces (same levels) (left + k) false in
      let fits = if_yes headers (fit a b) (ask_each test (interfaces_in a b)) told in
      let few : TypeData × TypeData → Type 0 = λ p. IsYes headers (test p) in
      let many : TypeData × TypeData → Type 0 = λ p. IsYes headers (wider p) in
      let step = interface_more levels (same levels) (same_more levels) left k in
      let combine : (t u v : TypeData) → IsTwice (t, u) → few (u, v) → NoUnionsBoth levels (u, u) → many (t, v) =
      λ t u v same here free. subst (λ (w : TypeData). many (w, v)) (sym same) (step u v free here) in
      let all = chain_interfaces IsTwice few (NoUnionsBoth levels) many combine a a b (fit_itself a) fits.0 (twice_places a) (each_yes headers test (interfaces_in a b) fits.1) none in
      yes_if headers (fit a b) (ask_each wider (interfaces_in a b)) fits.0 (yes_each headers wider (interfaces_in a b) all)

  -- CHAINS

  module _ (levels : ℕ) (go : Bool → ℕ → TypeData → TypeData → Test)
      (turn : (left : ℕ) (a b : TypeData) → IsYes headers (go false left a b) → IsYes headers (go false left b a))
      (more : (left k : ℕ) (a b : TypeData) → HasNoUnions headers levels a → IsYes headers (go false left a b) → IsYes headers (go false (left + k) a b))
      (chain : (left right : ℕ) (a b c : TypeData) → IsPlain a → IsPlain b → IsPlain c → HasNoUnions headers levels b → IsYes headers (go false left a b) → IsYes headers (go false right b c) → IsYes headers (go false (left + right) a c)) where
    method_chain : (left right : ℕ) (m n p : MethodData) → plain_method m → (plain_method n × free_method levels n) → plain_method p
        → IsYes headers (same_methods go left false (m, n)) → IsYes headers (same_methods go right false (n, p)) → IsYes headers (same_methods go (left + right) false (m, p))
    method_chain left right m n p plain_m free plain_p told after =
        let first = m.opened + n.opened in
        let second = n.opened + p.opened in
        let opened = m.opened + p.opened in
        let one = if_yes headers (nat_le first left) (go false (left - first) m.type n.type) told in
        let two = if_yes headers (nat_le second right) (go false (right - second) n.type p.type) after in
        let within : first ≤ left = le_is first left one.0 in
        let inside : second ≤ right = le_is second right two.0 in
        let both : opened ≤ left + right = omega arith in
        let rest : ((left - first) + n.opened) + ((right - second) + n.opened) ≡ (left + right) - opened = omega arith in
        let here = turn ((left - first) + n.opened) n.type m.type (more (left - first) n.opened n.type m.type free.1 (turn (left - first) m.type n.type one.1)) in
        let there = more (right - second) n.opened n.type p.type free.1 two.1 in
        yes_if headers (nat_le opened (left + right)) (go false ((left + right) - opened) m.type p.type) (is_le opened (left + right) both)
        (subst (λ l. IsYes headers (go false l m.type p.type)) rest (chain ((left - first) + n.opened) ((right - second) + n.opened) m.type n.type p.type plain_m free.0 plain_p free.1 here there))

    asked_chain : (left right : ℕ) (a b c : TypeData) → IsPlain a → IsPlain b → IsPlain c → NoUnionsAt levels b
        → SetsFound headers go left a b → SetsFound headers go right b c → SetsFound headers go (left + right) a c
    asked_chain left right a b c plain_a plain_b plain_c none here there =
        let sum : right + left ≡ left + right = omega arith in
        let s = here.one in
        let t = here.other in
        let u = there.other in
        let one = found_once headers right left b there.one t there.is_one here.is_other in
        let last = subst (λ (w : SetData). IsYes headers (same_sets go right false w u)) one there.told in
        let left_told = of_sets headers go left false s t here.told in
        let right_told = of_sets headers go right false t u last in
        let free = none left t here.is_other in
        let middle = every_with plain_method (free_method levels) t.methods (set_plain headers left b plain_b t here.is_other).0 free.1 in
        let methods = pairs_chain headers (same_methods go left false) (same_methods go right false) (same_methods go (left + right) false)
        plain_method (λ n. plain_method n × free_method levels n) plain_method (method_chain left right)
        s.methods t.methods u.methods (set_plain headers left a plain_a s here.is_one).0 middle (set_plain headers right c plain_c u there.is_other).0
        left_told.fits.back left_told.methods right_told.methods in
        record {
          one = s;
          other = u;
          is_one = set_more headers right left a s here.is_one;
          is_other = subst (λ n. Finds headers (set_of n c) u) sum (set_more headers left right c u there.is_other);
          told = sets_without go (left + right) s u (left_told.fits.all ∙ free.0) (sets_chain s t u left_told.fits right_told.fits)
              (fits_chain headers s.methods t.methods u.methods left_told.fits.back left_told.types right_told.types) methods;
        }

    interface_chain : (left right : ℕ) (a b c : TypeData) → IsPlain a → IsPlain b → IsPlain c → NoUnionsAt levels b
        → IsYes headers (same_interfaces go left false (a, b)) → IsYes headers (same_interfaces go right false (b, c)) → IsYes headers (same_interfaces go (left + right) false (a, c))
    interface_chain left right a b c plain_a plain_b plain_c none told after = at (alike a b) (alike b c) refl refl
      where
        at : (p q : Bool) → alike a b ≡ p → alike b c ≡ q → IsYes headers (same_interfaces go (left + right) false (a, c))
        at true q e f =
            let sum : right + left ≡ left + right = omega arith in
            let far = subst (λ n. IsYes headers (same_interfaces go n false (b, c))) sum (interface_more levels go more right left b c none after) in
            subst (λ (w : TypeData). IsYes headers (same_interfaces go (left + right) false (w, c))) (sym (plain_is a b plain_a plain_b e)) far
        at false true e f =
            let back = interface_more levels go more left right b a none (interface_swap headers go turn left (a, b) told) in
            let far = interface_swap headers go turn (left + right) (b, a) back in
            subst (λ (w : TypeData). IsYes headers (same_interfaces go (left + right) false (a, w))) (plain_is b c plain_b plain_c f) far
        at false false e f =
            yes_or headers (alike a c) (asked_sets headers go (left + right) a c) (λ other.
            to_asked headers go (left + right) a c (asked_chain left right a b c plain_a plain_b plain_c none
            (of_asked headers go left a b (or_yes headers (alike a b) (asked_sets headers go left a b) e told))
            (of_asked headers go right b c (or_yes headers (alike b c) (asked_sets headers go right b c) f after))))

  pub same_chain : (levels left right : ℕ) (a b c : TypeData) → IsPlain a → IsPlain b → IsPlain c → HasNoUnions headers levels b
      → IsYes headers (same levels false left a b) → IsYes headers (same levels false right b c) → IsYes headers (same levels false (left + right) a c)
  same_chain zero left right a b c plain_a plain_b plain_c none told after = told
  same_chain (suc levels) left right a b c plain_a plain_b plain_c none told after =
      let first = same_interfaces (same levels) left false in
      let second = same_interfaces (same levels) right false in
      let both = same_interfaces (same levels) (left + right) false in
      let one = if_yes headers (fit a b) (ask_each first (interfaces_in a b)) told in
      let two = if_yes headers (fit b c) (ask_each second (interfaces_in b c)) after in
      let P : TypeData × TypeData → Type 0 = λ p. ArePlainPair p × IsYes headers (first p) in
      let Q : TypeData × TypeData → Type 0 = λ p. ArePlainPair p × IsYes headers (second p) in
      let R : TypeData × TypeData → Type 0 = λ p. IsYes headers (both p) in
      let step = interface_chain levels (same levels) (same_swap headers levels) (same_more levels) (same_chain levels) left right in
      let combine : (t u v : TypeData) → P (t, u) → Q (u, v) → NoUnionsBoth levels (u, u) → R (t, v) =
      λ t u v here there free. step t u v here.0.0 here.0.1 there.0.1 free here.1 there.1 in
      let all = chain_interfaces P Q (NoUnionsBoth levels) R combine a b c one.0 two.0
      (every_with ArePlainPair (λ p. IsYes headers (first p)) (interfaces_in a b) (plain_places a b plain_a plain_b) (each_yes headers first (interfaces_in a b) one.1))
      (every_with ArePlainPair (λ p. IsYes headers (second p)) (interfaces_in b c) (plain_places b c plain_b plain_c) (each_yes headers second (interfaces_in b c) two.1))
      none in
      yes_if headers (fit a c) (ask_each both (interfaces_in a c)) (fit_chain a b c one.0 two.0) (yes_each headers both (interfaces_in a c) all)
