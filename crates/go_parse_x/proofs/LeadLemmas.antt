-- The sets beside the steps of a line are right.
use Rattle.std.proofs.Common.{ℕ, zero, suc, ◌+◌, ◌<◌, ◌≡◌, ◌==◌, Bool, true, false, not, ◌&&◌, ◌||◌, List, [], filter, cond, Some, length, slice_get, refl, ap, subst, ◌∙◌, arith}
use Rattle.std.proofs.lemmas.Bool.{and_parts, eqb-true}
use Rattle.std.proofs.lemmas.List.Folds.{list_any-append}
use Rattle.std.proofs.lemmas.Map.Views.{any-filter_same}
use Rattle.go_tree.specs.declared.token.TokenKind.{TokenKind}
use Rattle.go_tree.specs.declared.production.Production.{Production}
use Rattle.go_tree.specs.Grammar.RightSide.{RightSide, Do, Call, Nothing, Seq, Or, Many, When, Pass, Open, Reopen, Adopt, CheckType, Close}
use Rattle.go_tree.specs.Grammar.Tables.TokenKinds.{same_kind, is_in}
use Rattle.go_tree.specs.Grammar.Tables.Prediction.{begins, is_empty, may_look, may_miss}
use Rattle.go_tree.specs.Grammar.Trees.Sentence.{tables}
use Rattle.go_tree.proofs.NestingLemmas.{same_kinds}
use Rattle.go_parse_x.specs.declared.line.Step.{Step}
use Rattle.go_parse_x.specs.Tables.KindSets.{set_of}
use Rattle.go_parse_x.specs.Tables.Leads.{kinds_of, is_led, is_led_option, led_from, all_led, IsSetOf}
use Rattle.go_parse_x.specs.Tables.Lines.{side_at}
use Rattle.go_parse_x.proofs.KindSetLemmas.{set_has}

or_false : (b : Bool) → (b || false) ≡ b
or_false true = refl
or_false false = refl

-- a choice by the kind keeps the kind or loses it
kept : (p : TokenKind → Bool) (ks : List TokenKind) (k : TokenKind) → is_in (filter p ks) k ≡ (p k && is_in ks k)
kept p ks k = any-filter_same (λ j. same_kind j k) p (p k) (λ j h. ap p (same_kinds j k h)) ks

behind_empty : (b : Bool) (ks : List TokenKind) (k : TokenKind) → is_in (cond b ks []) k ≡ (b && is_in ks k)
behind_empty true ks k = refl
behind_empty false ks k = refl

-- the list has the kinds that begin the right side
kinds_begin : (g : RightSide Production) (k : TokenKind) → is_in (kinds_of g) k ≡ begins tables g k
kinds_begin (Do (Pass j)) k = or_false (same_kind j k)
kinds_begin (Do Open) k = refl
kinds_begin (Do Reopen) k = refl
kinds_begin (Do Adopt) k = refl
kinds_begin (Do CheckType) k = refl
kinds_begin (Do (Close kind)) k = refl
kinds_begin (Call n) k = refl
kinds_begin Nothing k = refl
kinds_begin (Seq g h) k =
    rw (list_any-append (λ j. same_kind j k) (kinds_of g) (cond (is_empty tables g) (kinds_of h) []), behind_empty (is_empty tables g) (kinds_of h) k, kinds_begin g k, kinds_begin h k) refl
kinds_begin (Or g h) k = rw (list_any-append (λ j. same_kind j k) (kinds_of g) (kinds_of h), kinds_begin g k, kinds_begin h k) refl
kinds_begin (Many g) k = kinds_begin g k
kinds_begin (When a g h) k =
    rw (list_any-append (λ j. same_kind j k) (filter (may_look a) (kinds_of g)) (filter (may_miss a) (kinds_of h)), kept (may_look a) (kinds_of g) k, kept (may_miss a) (kinds_of h) k, kinds_begin g k, kinds_begin h k) refl

-- a set that is that of the list
pub set_right : (set : ℕ) (g : RightSide Production) → (set == set_of (kinds_of g)) ≡ true → IsSetOf set g
set_right set g h k = rw (eqb-true set (set_of (kinds_of g)) h) (set_has (kinds_of g) k ∙ kinds_begin g k)

pub filled : (set : ℕ) (g : RightSide Production) → ((set == set_of (kinds_of g)) && not (is_empty tables g)) ≡ true → IsSetOf set g × (is_empty tables g ≡ false)
filled set g h =
    let z = and_parts (set == set_of (kinds_of g)) (not (is_empty tables g)) h in
    (set_right set g z.0, not_so (is_empty tables g) z.1)
  where
    not_so : (b : Bool) → not b ≡ true → b ≡ false
    not_so true h = cc
    not_so false h = refl

-- the set beside the step at a place is right
abbrev AtStep : List Step → ℕ → Type 0
AtStep line at = is_led_option (λ further. side_at line (at + 1 + further)) (slice_get line at) ≡ true

-- each is where all are
at_step : (more : ℕ) (line : List Step) (from further : ℕ) → further < more → led_from more line from ≡ true → AtStep line (from + further)
at_step zero line from further l h = absurd (omega (arith, l))
at_step (suc more) line from zero l h =
    let z = and_parts (is_led_option (λ n. side_at line (from + 1 + n)) (slice_get line from)) (led_from more line (from + 1)) h in
    subst (AtStep line) (omega arith) z.0
at_step (suc more) line from (suc further) l h =
    let z = and_parts (is_led_option (λ n. side_at line (from + 1 + n)) (slice_get line from)) (led_from more line (from + 1)) h in
    subst (AtStep line) (omega arith) (at_step more line (from + 1) further (omega (arith, l)) z.1)

pub led_at : (line : List Step) (at : ℕ) (step : Step) → at < length line → all_led line ≡ true → slice_get line at ≡ Some step → is_led (λ further. side_at line (at + 1 + further)) step ≡ true
led_at line at step l h q =
    let z : AtStep line at = subst (AtStep line) (omega arith) (at_step (length line) line 0 at l h) in
    subst (λ o. is_led_option (λ further. side_at line (at + 1 + further)) o ≡ true) q z
