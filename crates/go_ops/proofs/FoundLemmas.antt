-- What follows where a node has a record: each of its tests holds, and the record is given.
use Rattle.std.proofs.Common.{◌≡◌, ℕ, Bool, true, false, Option, None, List, [], ◌∷◌, ◌++◌, refl, sym, ◌∙◌}
use Rattle.std.specs.List.{AllByRecursion}
use Rattle.go_base.specs.declared.rule.Rule.{Rule}
use Rattle.go_judge.specs.declared.outcome.Spot.TheVariants.{Whole}
use Rattle.go_judge.specs.Judged.{Broken, Found, Lacking, No, OutcomeData, RuleEnd, RuleTest, Waits, Yes, end_on, lack_or, made, rule_end, ruled, spot_if_no, tested}
use Rattle.go_judge.specs.Operands.{at_whole}
use Rattle.go_judge.specs.Quests.{Asked, Decided, Lacks, Quest, run, then_ask}
use Rattle.go_judge.proofs.QuestLemmas.{run-then, run-then-Lacks}

-- a test that holds
abbrev pub Holds : {H : Type 0} → (ℕ → Option H) → RuleTest H → Type 0
Holds headers t = end_on headers t ≡ Yes

module _ {H R : Type 0} (headers : ℕ → Option H) where
  one-holds : (rule : Rule) (end : RuleEnd) (later : OutcomeData R) (r : R) → ruled rule end later ≡ Found r → (end ≡ Yes) × (later ≡ Found r)
  one-holds rule (No spots) later r is = absurd (let never : Broken rule spots ≡ Found r = is in cc)
  one-holds rule (Lacking d) later r is = absurd (let never : Waits d ≡ Found r = is in cc)
  one-holds rule Yes later r is = (refl, is)

  pub all-hold : (ts : List (RuleTest H)) (gives : Quest H R) (r : R) → tested headers ts gives ≡ Found r → AllByRecursion (Holds headers) ts
  all-hold [] gives r is = tt
  all-hold (t ∷ ts) gives r is =
      let here = one-holds t.rule (end_on headers t) (tested headers ts gives) r is in
      (here.0, all-hold ts gives r here.1)

  pub gives-record : (ts : List (RuleTest H)) (gives : Quest H R) (r : R) → tested headers ts gives ≡ Found r → run headers gives ≡ Decided r
  gives-record [] gives r is = go (run headers gives) is
    where
      go : (o : Asked R) → made o ≡ Found r → o ≡ Decided r
      go (Decided x) e = let same : Found x ≡ Found r = e in cc
      go (Lacks d) e = absurd (let never : Waits d ≡ Found r = e in cc)
  gives-record (t ∷ ts) gives r is = gives-record ts gives r (one-holds t.rule (end_on headers t) (tested headers ts gives) r is).1

-- a question that holds at the node as a whole
pub whole-holds : {H : Type 0} (headers : ℕ → Option H) (rule : Rule) (q : Quest H Bool) → end_on headers (at_whole rule q) ≡ Yes → run headers q ≡ Decided true
whole-holds headers rule q is = go (run headers q) is
  where
    go : (o : Asked Bool) → rule_end (spot_if_no Whole o ++ []) (lack_or o None) ≡ Yes → o ≡ Decided true
    go (Decided true) e = refl
    go (Decided false) e = absurd (let never : No (Whole ∷ []) ≡ Yes = e in cc)
    go (Lacks d) e = absurd (let never : Lacking d ≡ Yes = e in cc)

-- a question behind another that is decided, is by what that is
pub record Behind {H A B : Type 0} (headers : ℕ → Option H) (q : Quest H A) (next : A → Quest H B) (b : B) : Type 0 where
  pub answer : A
  pub first : run headers q ≡ Decided answer
  pub second : run headers (next answer) ≡ Decided b

pub behind : {H A B : Type 0} (headers : ℕ → Option H) (q : Quest H A) (next : A → Quest H B) (b : B) → run headers (then_ask q next) ≡ Decided b → Behind headers q next b
behind {H} {A} {B} headers q next b is = go (run headers q) refl
  where
    go : (o : Asked A) → run headers q ≡ o → Behind headers q next b
    go (Decided a) e = record { answer = a; first = e; second = sym (run-then headers q next a e) ∙ is }
    go (Lacks d) e = absurd (let never : Lacks d ≡ Decided b = sym (run-then-Lacks headers q next d e) ∙ is in cc)
