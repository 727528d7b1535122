-- Underlying types over headers of which none is lacking: what is asked of them is asked of those that are found; types that fit
-- and that no declaration defines are their own, or `error`.
use Rattle.std.proofs.Common.{◌≡◌, ℕ, suc, ◌^◌, Bool, true, false, Option, Some, None, [], ◌⊎◌, inl, inr, refl, sym, ap, ◌∙◌}
use Rattle.std.specs.Prelude.{is_some}
use Rattle.go_term.specs.Types.{Head, basic, field, method, named, param, TypeData, Parts, made}
use Rattle.go_term.specs.declared.basic.Basic.TheVariants as B
use Rattle.go_judge.specs.Headers.{Headers}
use Rattle.go_judge.specs.Types.Forms.{found_in}
use Rattle.go_judge.specs.Types.TypeIdentity.{both_found, fit, has_underlying, is_declared, same_found, same_underlying}
use Rattle.go_judge.specs.Types.TypeSets.{home_of, plain}
use Rattle.go_judge.specs.Types.UnderlyingType.{Origin, Reach, Reaches, declared_by, error_interface, literal_of, most_steps, step_by, under, under_from}
use Rattle.go_judge.specs.Quests.{Decided, Done, run}
use Rattle.go_same_laws.proofs.NormLemmas.{IsPlain, fit_seen, seen}
use Rattle.go_same_laws.proofs.OrderLemmas.{Asking}
use Rattle.go_same_laws.proofs.TotalLemmas.{IsTotal, decided, then_is}

-- HEADS

abbrev is_error : Head → Bool
is_error (basic B.Error) = true
is_error h = false

error_seen : (h : Head) → is_error (seen home_of h) ≡ is_error h
error_seen (basic b) = refl
error_seen (field f) = refl
error_seen (method m) = refl
error_seen h = refl

declared_seen : (h : Head) → declared_by (seen home_of h) ≡ declared_by h
declared_seen (named d) = refl
declared_seen (param d i) = refl
declared_seen (field f) = refl
declared_seen (method m) = refl
declared_seen h = refl

-- of types that fit both are declared, or neither is
pub fit_declared : (a b : TypeData) → fit a b ≡ true → is_declared a ≡ is_declared b
fit_declared (made h ts) (made g us) e =
    let same = fit_seen h g ts us e in
    ap is_some (sym (declared_seen h) ∙ ap declared_by same ∙ declared_seen g)

-- the type at which a chain of no step ends, but for `error`
literal_is : (h : Head) (ts : Parts) → is_error h ≡ false → literal_of h ts ≡ made h ts
literal_is (basic B.Error) ts e = absurd (let wrong : true ≡ false = e in cc wrong)
literal_is h ts e = refl

error_is : (h : Head) (ts : Parts) → is_error h ≡ true → literal_of h ts ≡ error_interface
error_is (basic B.Error) ts e = refl
error_is h ts e = absurd (let wrong : false ≡ true = e in cc wrong)

-- a step at least
record Above : Type 0 where
  below : ℕ
  steps : most_steps ≡ suc below

some_step : Above
unfolding most_steps
some_step = record { below = 2 ^ 64; steps = refl }

none_declared : (o : Option Origin) → is_some o ≡ false → o ≡ None
none_declared None e = refl
none_declared (Some o) e = absurd (let wrong : true ≡ false = e in cc wrong)

under_is : (h : Head) (ts : Parts) → is_declared (made h ts) ≡ false → under (made h ts) ≡ Done (Reaches (literal_of h ts))
under_is h ts e =
    ap (λ n. under_from n [] (made h ts)) some_step.steps
    ∙ ap (step_by (under_from some_step.below) [] h ts) (none_declared (declared_by h) e)

module _ (headers : Headers) (total : IsTotal headers) where
  -- the underlying type that is found
  abbrev pub found : TypeData → Option TypeData
  found a = found_in (decided headers total (under a)).0

  module _ (go : Asking) (left : ℕ) (short : Bool) (opened : ℕ) (a b : TypeData) where
    pub underlying_is : run headers (has_underlying go left short opened a b) ≡ run headers (same_found go left short opened b (found a))
    underlying_is = let reach = decided headers total (under a) in then_is headers (under a) (λ r. same_found go left short opened b (found_in r)) reach.0 reach.1

    pub both_is : run headers (same_underlying go left short opened a b) ≡ run headers (both_found go left short opened a (found b))
    both_is = let reach = decided headers total (under b) in then_is headers (under b) (λ r. both_found go left short opened a (found_in r)) reach.0 reach.1

  reaches : (a b : Reach) → Decided a ≡ Decided b → a ≡ b
  reaches a b e = cc e

  literal_found : (h : Head) (ts : Parts) → is_declared (made h ts) ≡ false → found (made h ts) ≡ Some (literal_of h ts)
  literal_found h ts e =
      let reach = decided headers total (under (made h ts)) in
      ap found_in (reaches reach.0 (Reaches (literal_of h ts)) (sym reach.1 ∙ ap (run headers) (under_is h ts e)))

  pub some_is : (u v : TypeData) → Some u ≡ Some v → u ≡ v
  some_is u v e = cc e

  -- what is found of two types that fit and that no declaration defines: one type, or they themselves
  pub record Literals (a b v : TypeData) : Type 0 where
    pub it : TypeData
    pub is : found a ≡ Some it
    pub same : (plain it ≡ plain v) ⊎ ((plain it ≡ a) × (plain v ≡ b))

  pub literals : (a b v : TypeData) → IsPlain a → IsPlain b → fit a b ≡ true → is_declared a ≡ false → found b ≡ Some v → Literals a b v
  literals (made h ts) (made g us) v plain_a plain_b fits none is = record { it = literal_of h ts; is = literal_found h ts none; same = at (is_error h) refl }
    where
      heads : is_error g ≡ is_error h
      heads = sym (sym (error_seen h) ∙ ap is_error (fit_seen h g ts us fits) ∙ error_seen g)

      other : v ≡ literal_of g us
      other = some_is v (literal_of g us) (sym is ∙ literal_found g us (sym (fit_declared (made h ts) (made g us) fits) ∙ none))

      at : (b : Bool) → is_error h ≡ b → (plain (literal_of h ts) ≡ plain v) ⊎ ((plain (literal_of h ts) ≡ made h ts) × (plain v ≡ made g us))
      at true e = inl (ap plain (error_is h ts e ∙ sym (error_is g us (heads ∙ e)) ∙ sym other))
      at false e = inr (ap plain (literal_is h ts e) ∙ plain_a, ap plain (other ∙ literal_is g us (heads ∙ e)) ∙ plain_b)
