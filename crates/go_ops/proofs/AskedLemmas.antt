-- What follows of answers to questions, by what the questions come to.
use Rattle.std.proofs.Common.{◌≡◌, ℕ, Option, Some, None, refl, ◌∙◌}
use Rattle.go_term.specs.Types.{TypeData}
use Rattle.go_judge.specs.Headers.{Headers}
use Rattle.go_judge.specs.Types.Forms.{form_asked, found_in, underlying_over}
use Rattle.go_judge.specs.Types.UnderlyingType.{Reach, under}
use Rattle.go_judge.specs.Quests.{Asked, Decided, Done, Lacks, Need, Quest, run, then_ask}
use Rattle.go_ops.specs.AskedSorts.{asked_map}

-- a question that ends by the answer to another
pub run-map : {H A B : Type 0} (known : ℕ → Option H) (q : Quest H A) (f : A → B) → run known (then_ask q (λ a. Done (f a))) ≡ asked_map f (run known q)
run-map {H} {A} {B} known (Done a) f = refl
run-map {H} {A} {B} known (Need d go_on) f = go (known d) (λ h. run-map known (go_on h) f)
  where
    go : (o : Option H) → ((h : H) → run known (then_ask (go_on h) (λ a. Done (f a))) ≡ asked_map f (run known (go_on h)))
        → elim o as (λ _. Asked B) [ None ↦ Lacks d | Some h ↦ run known (then_ask (go_on h) (λ a. Done (f a))) ]
        ≡ asked_map f (elim o as (λ _. Asked A) [ None ↦ Lacks d | Some h ↦ run known (go_on h) ])
    go None each = refl
    go (Some h) each = each h

found-map : {B : Type 0} (f : Option TypeData → B) (asked : Asked Reach) → asked_map (λ reach. f (found_in reach)) asked ≡ asked_map f (form_asked asked)
found-map f (Decided reach) = refl
found-map f (Lacks d) = refl

-- what is asked of an underlying type
pub under-asked : {B : Type 0} (headers : Headers) (t : TypeData) (f : Option TypeData → B)
    → run headers (then_ask (under t) (λ reach. Done (f (found_in reach)))) ≡ asked_map f (underlying_over headers t)
under-asked headers t f = run-map headers (under t) (λ reach. f (found_in reach)) ∙ found-map f (run headers (under t))
