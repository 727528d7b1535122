-- The interfaces at the same places of types: of three types that fit, of types without objects, and of a type beside itself.
use Rattle.std.proofs.Common.{◌≡◌, Bool, true, false, ◌&&◌, if◌then◌else◌, List, [], ◌∷◌, refl, sym, subst, ◌∙◌}
use Rattle.std.specs.List.{AllByRecursion}
use Rattle.go_term.specs.Types.{Head, TypeData, Parts, made, no_parts, more_parts}
use Rattle.go_judge.specs.Types.TypeIdentity.{all_fit, are_interfaces, fit, interfaces_in, interfaces_in_all}
use Rattle.go_same_laws.proofs.EveryLemmas.{every_both, every_first, every_second}
use Rattle.go_same_laws.proofs.NormLemmas.{ArePlain, IsPlain, are_literals, both_true, first_plain, fits, is_literal, parts_plain, rest_plain}

-- OF THREE TYPES

are_both : (b : Bool) (h g : Head) → is_literal h ≡ b → is_literal g ≡ b → are_interfaces h g ≡ b
are_both b h g e f = are_literals h g ∙ (λ i. e i && f i) ∙ twice b
  where
    twice : (b : Bool) → (b && b) ≡ b
    twice true = refl
    twice false = refl

module _ (P Q N R : TypeData × TypeData → Type 0) (combine : (t u v : TypeData) → P (t, u) → Q (u, v) → N (u, u) → R (t, v)) where
  here_or : (b : Bool) (t u v : TypeData) (tu uv uu tv : List (TypeData × TypeData))
      → (b ≡ false → AllByRecursion P tu → AllByRecursion Q uv → AllByRecursion N uu → AllByRecursion R tv)
      → AllByRecursion P (if b then (t, u) ∷ [] else tu) → AllByRecursion Q (if b then (u, v) ∷ [] else uv) → AllByRecursion N (if b then (u, u) ∷ [] else uu)
      → AllByRecursion R (if b then (t, v) ∷ [] else tv)
  here_or true t u v tu uv uu tv rest ps qs ns = (combine t u v ps.0 qs.0 ns.0, tt)
  here_or false t u v tu uv uu tv rest ps qs ns = rest refl ps qs ns

  mutual
    pub chain_interfaces : (t u v : TypeData) → fit t u ≡ true → fit u v ≡ true
        → AllByRecursion P (interfaces_in t u) → AllByRecursion Q (interfaces_in u v) → AllByRecursion N (interfaces_in u u) → AllByRecursion R (interfaces_in t v)
    chain_interfaces (made h ts) (made g us) (made k vs) e f ps qs ns =
        let one = fits h g ts us e in
        let two = fits g k us vs f in
        let deeper = chain_all ts us vs in
        let b = is_literal g in
        let t = made h ts in
        let u = made g us in
        let v = made k vs in
        subst (λ (c : Bool). AllByRecursion R (if c then (t, v) ∷ [] else interfaces_in_all ts vs)) (sym (are_both b h k one.alike (sym two.alike)))
        (here_or b t u v (interfaces_in_all ts us) (interfaces_in_all us vs) (interfaces_in_all us us) (interfaces_in_all ts vs)
        (λ other. deeper (one.same_parts other) (two.same_parts (sym two.alike ∙ other)))
        (subst (λ (c : Bool). AllByRecursion P (if c then (t, u) ∷ [] else interfaces_in_all ts us)) (are_both b h g one.alike refl) ps)
        (subst (λ (c : Bool). AllByRecursion Q (if c then (u, v) ∷ [] else interfaces_in_all us vs)) (are_both b g k refl (sym two.alike)) qs)
        (subst (λ (c : Bool). AllByRecursion N (if c then (u, u) ∷ [] else interfaces_in_all us us)) (are_both b g g refl refl) ns))

    chain_all : (ts us vs : Parts) → all_fit ts us ≡ true → all_fit us vs ≡ true
        → AllByRecursion P (interfaces_in_all ts us) → AllByRecursion Q (interfaces_in_all us vs) → AllByRecursion N (interfaces_in_all us us) → AllByRecursion R (interfaces_in_all ts vs)
    chain_all no_parts us vs e f ps qs ns = tt
    chain_all (more_parts t ts) no_parts vs e f ps qs ns = absurd (let wrong : false ≡ true = e in cc wrong)
    chain_all (more_parts t ts) (more_parts u us) no_parts e f ps qs ns = absurd (let wrong : false ≡ true = f in cc wrong)
    chain_all (more_parts t ts) (more_parts u us) (more_parts v vs) e f ps qs ns =
        let one = both_true (fit t u) (all_fit ts us) e in
        let two = both_true (fit u v) (all_fit us vs) f in
        let first = chain_interfaces t u v one.0 two.0
        (every_first P (interfaces_in t u) (interfaces_in_all ts us) ps)
        (every_first Q (interfaces_in u v) (interfaces_in_all us vs) qs)
        (every_first N (interfaces_in u u) (interfaces_in_all us us) ns) in
        let rest = chain_all ts us vs one.1 two.1
        (every_second P (interfaces_in t u) (interfaces_in_all ts us) ps)
        (every_second Q (interfaces_in u v) (interfaces_in_all us vs) qs)
        (every_second N (interfaces_in u u) (interfaces_in_all us us) ns) in
        every_both R (interfaces_in t v) (interfaces_in_all ts vs) first rest

-- OF TYPES WITHOUT OBJECTS

abbrev pub ArePlainPair : TypeData × TypeData → Type 0
ArePlainPair p = IsPlain p.0 × IsPlain p.1

mutual
  pub plain_places : (t u : TypeData) → IsPlain t → IsPlain u → AllByRecursion ArePlainPair (interfaces_in t u)
  plain_places (made h ts) (made g us) e f =
      let rest = plain_all_places ts us (parts_plain h ts e) (parts_plain g us f) in
      elim (are_interfaces h g) as (λ (b : Bool). AllByRecursion ArePlainPair (if b then (made h ts, made g us) ∷ [] else interfaces_in_all ts us)) [ true ↦ ((e, f), tt) | false ↦ rest ]

  plain_all_places : (ts us : Parts) → ArePlain ts → ArePlain us → AllByRecursion ArePlainPair (interfaces_in_all ts us)
  plain_all_places no_parts us e f = tt
  plain_all_places (more_parts t ts) no_parts e f = tt
  plain_all_places (more_parts t ts) (more_parts u us) e f =
      every_both ArePlainPair (interfaces_in t u) (interfaces_in_all ts us)
      (plain_places t u (first_plain t ts e) (first_plain u us f))
      (plain_all_places ts us (rest_plain t ts e) (rest_plain u us f))

-- OF A TYPE BESIDE ITSELF

abbrev pub IsTwice : TypeData × TypeData → Type 0
IsTwice p = p.0 ≡ p.1

mutual
  pub twice_places : (t : TypeData) → AllByRecursion IsTwice (interfaces_in t t)
  twice_places (made h ts) =
      let rest = twice_all_places ts in
      elim (are_interfaces h h) as (λ (b : Bool). AllByRecursion IsTwice (if b then (made h ts, made h ts) ∷ [] else interfaces_in_all ts ts)) [ true ↦ (refl, tt) | false ↦ rest ]

  twice_all_places : (ts : Parts) → AllByRecursion IsTwice (interfaces_in_all ts ts)
  twice_all_places no_parts = tt
  twice_all_places (more_parts t ts) = every_both IsTwice (interfaces_in t t) (interfaces_in_all ts ts) (twice_places t) (twice_all_places ts)
