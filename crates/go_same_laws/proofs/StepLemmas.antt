-- Type identity where more or fewer names may be opened, and in premises, level after level: what is told stays where more may be
-- opened and at more levels; of a premise, where fewer may and at fewer; and of a premise it is told wherever it is told at all.
use Rattle.std.proofs.Common.{◌≡◌, ℕ, zero, suc, ◌+◌, ◌-◌, Bool, true, false, Option, Some, None, List, not, refl, sym, subst, ◌∙◌, arith}
use Rattle.std.specs.List.{flat_map}
use Rattle.go_term.specs.Types.{TypeData}
use Rattle.go_judge.specs.Headers.{Headers}
use Rattle.go_judge.specs.Types.Heads.{alike}
use Rattle.go_judge.specs.Types.TypeIdentity.{Test, ask_each, fit, implied, interfaces_in, lies_in, same, same_as, same_as_set, same_interfaces, same_methods, same_sets, terms_lie}
use Rattle.go_judge.specs.Types.TypeSets.{SetData, TermData, set_of}
use Rattle.go_judge.specs.Quests.{Decided, run, then_ask}
use Rattle.go_same_laws.proofs.EveryLemmas.{every_so}
use Rattle.go_same_laws.proofs.FitLemmas.{of_sets, pairs_so, to_sets, units}
use Rattle.go_same_laws.proofs.OrderLemmas.{Asking, Carries, Order, TellsFit, behind_carries, fits_form, form_fits, lies_in_carries, order_turned, room}
use Rattle.go_same_laws.proofs.SetLemmas.{Finds, found_once, set_more}
use Rattle.go_same_laws.proofs.SwapLemmas.{if_yes, of_asked, or_yes, to_asked, yes_if, yes_or}
use Rattle.go_same_laws.proofs.TotalLemmas.{IsTotal, decided, implied_yes, then_is, yes_implied}
use Rattle.go_same_laws.proofs.YesLemmas.{IsYes, each_yes, hence, yes_each}

module _ (headers : Headers) where
  -- what is asked of two interfaces
  abbrev asked : Asking → ℕ → Bool → TypeData → TypeData → Test
  asked go left short a b = then_ask (set_of left a) (same_as go left short b)

  -- of the sets that are found
  of_premise : (go : Asking) (left : ℕ) (short : Bool) (a b : TypeData) (x y : SetData) → Finds headers (set_of left a) x → Finds headers (set_of left b) y
      → IsYes headers (asked go left short a b) → IsYes headers (same_sets go left short x y)
  of_premise go left short a b x y first second told =
      sym (then_is headers (set_of left b) (same_as_set go left short x) (Some y) second) ∙ sym (then_is headers (set_of left a) (same_as go left short b) (Some x) first) ∙ told

  module _ (total : IsTotal headers) where
    to_premise : (go : Asking) (left : ℕ) (a b : TypeData) → ((x y : SetData) → Finds headers (set_of left a) x → Finds headers (set_of left b) y → IsYes headers (same_sets go left true x y)) → IsYes headers (asked go left true a b)
    to_premise go left a b so =
        let one = decided headers total (set_of left a) in
        let two = decided headers total (set_of left b) in
        at one.0 two.0 one.1 two.1
      where
        at : (o p : Option SetData) → run headers (set_of left a) ≡ Decided o → run headers (set_of left b) ≡ Decided p → IsYes headers (asked go left true a b)
        at None p first second = hence headers (set_of left a) (same_as go left true b) None true first refl
        at (Some x) None first second =
            hence headers (set_of left a) (same_as go left true b) (Some x) true first
            (hence headers (set_of left b) (same_as_set go left true x) None true second refl)
        at (Some x) (Some y) first second =
            hence headers (set_of left a) (same_as go left true b) (Some x) true first
            (hence headers (set_of left b) (same_as_set go left true x) (Some y) true second (so x y first second))

    -- SETS

    abbrev SetsCarry : Asking → Asking → Bool → Bool → Type 0
    SetsCarry go on s t = (m n : ℕ) → Order s t m n → (x y : SetData) → IsYes headers (same_sets go m s x y) → IsYes headers (same_sets on n t x y)

    module _ (s t : Bool) (go on : Asking) (tells : TellsFit headers go) (tells_on : TellsFit headers on) (carries : Carries headers go on s t) (back : Carries headers on go (not t) (not s)) where
      terms_carry : (m n : ℕ) → Order s t m n → (x y : SetData) → IsYes headers (terms_lie go m s x y) → IsYes headers (terms_lie on n t x y)
      terms_carry m n order x y told =
          let all = flat_map (λ (u : List TermData). u) x.unions in
          let before : TermData → Test = λ a. implied (lies_in go m (not s) x.unions a) (lies_in go m s y.unions a) in
          let after : TermData → Test = λ a. implied (lies_in on n (not t) x.unions a) (lies_in on n t y.unions a) in
          yes_each headers after all
          (every_so (λ a. IsYes headers (before a)) (λ a. IsYes headers (after a))
          (λ a here. implied_yes headers total (lies_in on n (not t) x.unions a) (lies_in on n t y.unions a) (λ first.
          lies_in_carries headers total s t go on tells carries m n order y.unions a
          (yes_implied headers (lies_in go m (not s) x.unions a) (lies_in go m s y.unions a) here
          (lies_in_carries headers total (not t) (not s) on go tells_on back n m (order_turned s t m n order) x.unions a first))))
          all (each_yes headers before all told))

      sets_carry : SetsCarry go on s t
      sets_carry m n order x y told =
          let parts = of_sets headers go m s x y told in
          to_sets headers on n t x y (record {
            fits = parts.fits;
            types = parts.types;
            methods = pairs_so headers (same_methods go m s) (same_methods on n t) (λ p. Unit {0}) (λ p. Unit {0})
                (λ p q any some. behind_carries headers total s t go on tells carries m (p.opened + q.opened) n (p.opened + q.opened) (room s t m n (p.opened + q.opened) order) p.type q.type)
                x.methods y.methods (units x.methods) (units y.methods) parts.methods;
            there = terms_carry m n order x y parts.there;
            back = terms_carry m n order y x parts.back;
          })

    -- INTERFACES

    asked_carry : (s t : Bool) (go on : Asking) → SetsCarry go on s t → (m n : ℕ) → Order s t m n → (a b : TypeData) → IsYes headers (asked go m s a b) → IsYes headers (asked on n t a b)
    asked_carry false false go on carry m n order a b told =
        let found = of_asked headers go m a b told in
        let sum : m + (n - m) ≡ n = omega arith in
        let more : (c : TypeData) (x : SetData) → Finds headers (set_of m c) x → Finds headers (set_of n c) x = λ c x here. subst (λ k. Finds headers (set_of k c) x) sum (set_more headers (n - m) m c x here) in
        to_asked headers on n a b (record {
          one = found.one;
          other = found.other;
          is_one = more a found.one found.is_one;
          is_other = more b found.other found.is_other;
          told = carry m n order found.one found.other found.told;
        })
    asked_carry false true go on carry m n order a b told =
        let found = of_asked headers go m a b told in
        to_premise on n a b (λ x y first second.
        let one = found_once headers m n a found.one x found.is_one first in
        let two = found_once headers m n b found.other y found.is_other second in
        carry m n order x y (subst (λ (w : SetData). IsYes headers (same_sets go m false x w)) two (subst (λ (w : SetData). IsYes headers (same_sets go m false w found.other)) one found.told)))
    asked_carry true false go on carry m n order a b told = absurd order
    asked_carry true true go on carry m n order a b told =
        let sum : n + (m - n) ≡ m = omega arith in
        let more : (c : TypeData) (x : SetData) → Finds headers (set_of n c) x → Finds headers (set_of m c) x = λ c x here. subst (λ k. Finds headers (set_of k c) x) sum (set_more headers (m - n) n c x here) in
        to_premise on n a b (λ x y first second. carry m n order x y (of_premise go m true a b x y (more a x first) (more b y second) told))

    pub interface_carry : (s t : Bool) (go on : Asking) → TellsFit headers go → TellsFit headers on → Carries headers go on s t → Carries headers on go (not t) (not s)
        → (m n : ℕ) → Order s t m n → (p : TypeData × TypeData) → IsYes headers (same_interfaces go m s p) → IsYes headers (same_interfaces on n t p)
    interface_carry s t go on tells tells_on carries back m n order p told =
        yes_or headers (alike p.0 p.1) (asked on n t p.0 p.1) (λ other.
        asked_carry s t go on (sets_carry s t go on tells tells_on carries back) m n order p.0 p.1
        (or_yes headers (alike p.0 p.1) (asked go m s p.0 p.1) other told))

    -- LEVELS

    pub level_fits : (levels : ℕ) → TellsFit headers (same levels)
    level_fits zero s m a b told = (form_fits headers s a b told).1
    level_fits (suc levels) s m a b told = (if_yes headers (fit a b) (ask_each (same_interfaces (same levels) m s) (interfaces_in a b)) told).0

    both_zero : (s t : Bool) → Order s t zero zero → Carries headers (same zero) (same zero) s t
    both_zero s true any m n order a b told = fits_form headers true a b refl (form_fits headers s a b told).1
    both_zero true false any m n order a b told = absurd any
    both_zero false false any m n order a b told = told

    from_zero : (levels : ℕ) (s t : Bool) → Order s t zero (suc levels) → Carries headers (same zero) (same (suc levels)) s t
    from_zero levels false t any m n order a b told = let parts = form_fits headers false a b told in absurd (let wrong : false ≡ true = parts.0 in cc wrong)
    from_zero levels true false any m n order a b told = absurd any
    from_zero levels true true any m n order a b told = absurd (omega arith)

    to_zero : (levels : ℕ) (s t : Bool) → Order s t (suc levels) zero → Carries headers (same (suc levels)) (same zero) s t
    to_zero levels s true any m n order a b told = fits_form headers true a b refl (level_fits (suc levels) s m a b told)
    to_zero levels true false any m n order a b told = absurd any
    to_zero levels false false any m n order a b told = absurd (omega arith)

    above : (levels more : ℕ) (s t : Bool) → Carries headers (same levels) (same more) s t → Carries headers (same more) (same levels) (not t) (not s) → Carries headers (same (suc levels)) (same (suc more)) s t
    above levels more s t carries back m n order a b told =
        let before = same_interfaces (same levels) m s in
        let after = same_interfaces (same more) n t in
        let fits = if_yes headers (fit a b) (ask_each before (interfaces_in a b)) told in
        yes_if headers (fit a b) (ask_each after (interfaces_in a b)) fits.0
        (yes_each headers after (interfaces_in a b)
        (every_so (λ p. IsYes headers (before p)) (λ p. IsYes headers (after p))
        (interface_carry s t (same levels) (same more) (level_fits levels) (level_fits more) carries back m n order)
        (interfaces_in a b) (each_yes headers before (interfaces_in a b) fits.1)))

    lower : (s t : Bool) (m n : ℕ) → Order s t (suc m) (suc n) → Order s t m n
    lower false false m n order = omega arith
    lower false true m n order = tt
    lower true false m n order = order
    lower true true m n order = omega arith

    -- from the one number of levels to the other, and back
    abbrev Ways : ℕ → ℕ → Bool → Bool → Type 0
    Ways levels more s t = (Order s t levels more → Carries headers (same levels) (same more) s t) × (Order s t more levels → Carries headers (same more) (same levels) s t)

    ways : (levels more : ℕ) (s t : Bool) → Ways levels more s t
    ways zero zero s t = (both_zero s t, both_zero s t)
    ways zero (suc more) s t = (from_zero more s t, to_zero more s t)
    ways (suc levels) zero s t = (to_zero levels s t, from_zero levels s t)
    ways (suc levels) (suc more) s t =
        let forth = ways levels more s t in
        let back = ways levels more (not t) (not s) in (
          λ order. let under = lower s t levels more order in above levels more s t (forth.0 under) (back.1 (order_turned s t levels more under)),
          λ order. let under = lower s t more levels order in above more levels s t (forth.1 under) (back.0 (order_turned s t more levels under)),
        )

    pub same_carries : (s t : Bool) (levels more : ℕ) → Order s t levels more → Carries headers (same levels) (same more) s t
    same_carries s t levels more = (ways levels more s t).0
