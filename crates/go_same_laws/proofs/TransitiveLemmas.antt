-- Type identity is transitive over headers of which none is lacking, level after level.
use Rattle.std.proofs.Common.{◌≡◌, ℕ, zero, suc, ◌+◌, ◌≤◌, Bool, true, false, Option, Some, None, refl, sym, subst, ◌∙◌, arith}
use Rattle.go_term.specs.declared.basic.Basic.TheVariants as B
use Rattle.go_term.specs.Types.{TypeData, basic_type}
use Rattle.go_judge.specs.Records.{HeaderData, alias}
use Rattle.go_judge.specs.Headers.{Headers}
use Rattle.go_judge.specs.Types.Heads.{alike}
use Rattle.go_judge.specs.Types.TypeIdentity.{ask_each, fit, interfaces_in, most_levels, most_opened, same, same_interfaces, same_methods, same_sets, terms_lie}
use Rattle.go_judge.specs.Types.TypeSets.{MethodData, SetData, plain, set_of}
use Rattle.go_judge.specs.Quests.{Decided, IsPart, Stays, run}
use Rattle.go_judge.proofs.QuestLemmas.{run-stays}
use Rattle.go_same_laws.specs.Laws.{Chains}
use Rattle.go_same_laws.proofs.EveryLemmas.{every_with}
use Rattle.go_same_laws.proofs.FitLemmas.{fits_chain, of_sets, pairs_chain, sets_chain, to_sets}
use Rattle.go_same_laws.proofs.NormLemmas.{IsPlain, fit_chain, plain_is, plain_twice}
use Rattle.go_same_laws.proofs.OrderLemmas.{Asking}
use Rattle.go_same_laws.proofs.PlaceLemmas.{ArePlainPair, IsTwice, chain_interfaces, plain_places, twice_places}
use Rattle.go_same_laws.proofs.SetLemmas.{Finds, found_once, set_more}
use Rattle.go_same_laws.proofs.StepLemmas.{interface_carry, level_fits, same_carries}
use Rattle.go_same_laws.proofs.SwapLemmas.{SetsFound, asked_sets, if_yes, of_asked, or_yes, premise_itself, same_swap, to_asked, yes_if, yes_or}
use Rattle.go_same_laws.proofs.TermLemmas.{Level, behind_on}
use Rattle.go_same_laws.proofs.TotalLemmas.{IsTotal}
use Rattle.go_same_laws.proofs.UnionLemmas.{unions_on}
use Rattle.go_same_laws.proofs.WithinLemmas.{set_plain}
use Rattle.go_same_laws.proofs.YesLemmas.{IsYes, each_yes, yes_each}

module _ (headers : Headers) (total : IsTotal headers) where
  -- INTERFACES

  module _ (go : Asking) (level : Level headers go) where
    abbrev Told : ℕ → MethodData → MethodData → Type 0
    Told left m n = IsYes headers (same_methods go left false (m, n))

    method_on : (p q : ℕ) (m n o : MethodData) → IsPlain m.type → IsPlain n.type → IsPlain o.type → Told p m n → Told q n o → Told (p + q) m o
    method_on p q m n o plain_m plain_n plain_o =
        behind_on headers total go level p (m.opened + n.opened) q (n.opened + o.opened) (m.opened + o.opened) (omega arith) m.type n.type o.type plain_m plain_n plain_o

    sets_on : (p q : ℕ) (a b c : TypeData) (s t u : SetData) → IsPlain a → IsPlain b → IsPlain c → Finds headers (set_of p a) s → Finds headers (set_of p b) t → Finds headers (set_of q b) t → Finds headers (set_of q c) u
        → IsYes headers (same_sets go p false s t) → IsYes headers (same_sets go q false t u) → IsYes headers (same_sets go (p + q) false s u)
    sets_on p q a b c s t u plain_a plain_b plain_c is_s is_t again is_u told after =
        let one = of_sets headers go p false s t told in
        let two = of_sets headers go q false t u after in
        let of_s = set_plain headers p a plain_a s is_s in
        let of_t = set_plain headers p b plain_b t is_t in
        let of_more = set_plain headers q b plain_b t again in
        let of_u = set_plain headers q c plain_c u is_u in
        let plainly : MethodData → Type 0 = λ m. IsPlain m.type in
        let sum : q + p ≡ p + q = omega arith in
        let back = unions_on headers total go level q p u t s of_u.1 of_more.1 of_s.1 (sym two.fits.all) two.back one.back in
        to_sets headers go (p + q) false s u (record {
          fits = sets_chain s t u one.fits two.fits;
          types = fits_chain headers s.methods t.methods u.methods one.fits.back one.types two.types;
          methods = pairs_chain headers (same_methods go p false) (same_methods go q false) (same_methods go (p + q) false) plainly plainly plainly (method_on p q)
              s.methods t.methods u.methods of_s.0 of_t.0 of_u.0 one.fits.back one.methods two.methods;
          there = unions_on headers total go level p q s t u of_s.1 of_t.1 of_u.1 one.fits.all one.there two.there;
          back = subst (λ n. IsYes headers (terms_lie go n false u s)) sum back;
        })

    asked_on : (p q : ℕ) (a b c : TypeData) → IsPlain a → IsPlain b → IsPlain c → SetsFound headers go p a b → SetsFound headers go q b c → SetsFound headers go (p + q) a c
    asked_on p q a b c plain_a plain_b plain_c here there =
        let sum : q + p ≡ p + q = omega arith in
        let one = found_once headers q p b there.one here.other there.is_one here.is_other in
        record {
          one = here.one;
          other = there.other;
          is_one = set_more headers q p a here.one here.is_one;
          is_other = subst (λ n. Finds headers (set_of n c) there.other) sum (set_more headers p q c there.other there.is_other);
          told = sets_on p q a b c here.one here.other there.other plain_a plain_b plain_c here.is_one here.is_other
              (subst (λ (w : SetData). Finds headers (set_of q b) w) one there.is_one) there.is_other here.told
              (subst (λ (w : SetData). IsYes headers (same_sets go q false w there.other)) one there.told);
        }

    interface_more : (p q : ℕ) → p ≤ q → (a b : TypeData) → IsYes headers (same_interfaces go p false (a, b)) → IsYes headers (same_interfaces go q false (a, b))
    interface_more p q few a b = interface_carry headers total false false go go level.tells level.tells level.more level.fewer p q few (a, b)

    interface_on : (p q : ℕ) (a b c : TypeData) → IsPlain a → IsPlain b → IsPlain c
        → IsYes headers (same_interfaces go p false (a, b)) → IsYes headers (same_interfaces go q false (b, c)) → IsYes headers (same_interfaces go (p + q) false (a, c))
    interface_on p q a b c plain_a plain_b plain_c told after = at (alike a b) (alike b c) refl refl
      where
        at : (i j : Bool) → alike a b ≡ i → alike b c ≡ j → IsYes headers (same_interfaces go (p + q) false (a, c))
        at true j e f = subst (λ (w : TypeData). IsYes headers (same_interfaces go (p + q) false (w, c))) (sym (plain_is a b plain_a plain_b e)) (interface_more q (p + q) (omega arith) b c after)
        at false true e f = subst (λ (w : TypeData). IsYes headers (same_interfaces go (p + q) false (a, w))) (plain_is b c plain_b plain_c f) (interface_more p (p + q) (omega arith) a b told)
        at false false e f =
            yes_or headers (alike a c) (asked_sets headers go (p + q) a c) (λ other.
            to_asked headers go (p + q) a c (asked_on p q a b c plain_a plain_b plain_c
            (of_asked headers go p a b (or_yes headers (alike a b) (asked_sets headers go p a b) e told))
            (of_asked headers go q b c (or_yes headers (alike b c) (asked_sets headers go q b c) f after))))

  -- LEVELS

  abbrev Chain : ℕ → Type 0
  Chain levels =
      (p q : ℕ) (a b c : TypeData) → IsPlain a → IsPlain b → IsPlain c
      → IsYes headers (same levels false p a b) → IsYes headers (same levels false q b c) → IsYes headers (same levels false (p + q) a c)

  level_of : (levels : ℕ) → Chain levels → Level headers (same levels)
  level_of levels chain =
      let least : levels ≤ levels = omega arith in
      record {
        tells = level_fits headers total levels;
        more = same_carries headers total false false levels levels least;
        fewer = same_carries headers total true true levels levels least;
        premise = same_carries headers total false true levels levels tt;
        itself = premise_itself headers levels;
        turn = same_swap headers levels;
        chain = chain;
      }

  pub same_on : (levels : ℕ) → Chain levels
  same_on zero p q a b c plain_a plain_b plain_c told after = told
  same_on (suc levels) p q a b c plain_a plain_b plain_c told after =
      let first = same_interfaces (same levels) p false in
      let second = same_interfaces (same levels) q false in
      let both = same_interfaces (same levels) (p + q) false in
      let one = if_yes headers (fit a b) (ask_each first (interfaces_in a b)) told in
      let two = if_yes headers (fit b c) (ask_each second (interfaces_in b c)) after in
      let P : TypeData × TypeData → Type 0 = λ p. ArePlainPair p × IsYes headers (first p) in
      let Q : TypeData × TypeData → Type 0 = λ p. ArePlainPair p × IsYes headers (second p) in
      let R : TypeData × TypeData → Type 0 = λ p. IsYes headers (both p) in
      let step = interface_on (same levels) (level_of levels (same_on levels)) p q in
      let combine : (t u v : TypeData) → P (t, u) → Q (u, v) → IsTwice (u, u) → R (t, v) = λ t u v here there twice. step t u v here.0.0 here.0.1 there.0.1 here.1 there.1 in
      let all = chain_interfaces P Q IsTwice R combine a b c one.0 two.0
      (every_with ArePlainPair (λ p. IsYes headers (first p)) (interfaces_in a b) (plain_places a b plain_a plain_b) (each_yes headers first (interfaces_in a b) one.1))
      (every_with ArePlainPair (λ p. IsYes headers (second p)) (interfaces_in b c) (plain_places b c plain_b plain_c) (each_yes headers second (interfaces_in b c) two.1))
      (twice_places b) in
      yes_if headers (fit a c) (ask_each both (interfaces_in a c)) (fit_chain a b c one.0 two.0) (yes_each headers both (interfaces_in a c) all)
