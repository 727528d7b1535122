-- Where a node has a record, and where it breaks a rule.
use Rattle.std.proofs.Common.{◌≡◌, ◌≢◌, ℕ, Bool, true, false, Option, Some, None, List, [], ◌∷◌, ◌++◌, map, ◌⊎◌, inl, inr, refl, sym, ◌∙◌, ap, subst}
use Rattle.std.specs.List.{AllByRecursion}
use Rattle.go_base.specs.declared.rule.Rule.{Rule}
use Rattle.go_judge.specs.declared.outcome.Spot.{Spot}
use Rattle.go_judge.specs.Exactly.{AllYes, Breaks, HasRecord, IsAsked}
use Rattle.go_judge.specs.Judged.{All, Asks, Broken, First, Found, Gone, Lacking, No, Nothing, Operands, OutcomeData, SpotTest, Construct, RuleTest, RuleEnd, Waits, Yes, asked, first_lack, joined, judged, lack_or, made, no_spots, outcome_at, ruled, spot_if_no, tested, together, rule_end, end_on, with_records}
use Rattle.go_judge.specs.Quests.{Asked, Decided, Lacks, Quest, run}

-- Yes at all places
pub end-Yes : (ss : List Spot) (o : Option ℕ) → rule_end ss o ≡ Yes → (ss ≡ []) × (o ≡ None)
end-Yes [] None e = (refl, refl)
end-Yes [] (Some d) e = absurd (let never : Lacking d ≡ Yes = e in cc)
end-Yes (s ∷ ss) o e = absurd (let never : No (s ∷ ss) ≡ Yes = e in cc)

end-No : (ss : List Spot) (o : Option ℕ) (us : List Spot) → rule_end ss o ≡ No us → (ss ≡ us) × (us ≢ [])
end-No [] None us e = absurd (let never : Yes ≡ No us = e in cc)
end-No [] (Some d) us e = absurd (let never : Lacking d ≡ No us = e in cc)
end-No (s ∷ ss) o us e = let same : No (s ∷ ss) ≡ No us = e in (let is : s ∷ ss ≡ us = cc in (is, λ none. (let never : s ∷ ss ≡ [] = is ∙ none in cc)))

No-end : (ss : List Spot) (o : Option ℕ) → ss ≢ [] → rule_end ss o ≡ No ss
No-end [] o some = absurd (some refl)
No-end (s ∷ ss) o some = refl

here_yes : (spot : Spot) (x : Asked Bool) (ss : List Spot) (o : Option ℕ) → spot_if_no spot x ++ ss ≡ [] → lack_or x o ≡ None → (x ≡ Decided true) × (ss ≡ []) × (o ≡ None)
here_yes spot (Decided true) ss o e f = (refl, e, f)
here_yes spot (Decided false) ss o e f = absurd (let never : spot ∷ ss ≡ [] = e in cc)
here_yes spot (Lacks d) ss o e f = absurd (let never : Some d ≡ None = f in cc)

-- the records of operands that all have one
joined_all : {R : Type 0} (x : OutcomeData R) (y : Operands R) (rs : List R) → joined x y ≡ All rs → (r : R) × (qs : List R) × (x ≡ Found r) × (y ≡ All qs) × (rs ≡ r ∷ qs)
joined_all (Found r) (All qs) rs e = (r, qs, refl, refl, let same : All (r ∷ qs) ≡ All rs = e in cc)
joined_all (Found r) (First d) rs e = absurd (let never : First d ≡ All rs = e in cc)
joined_all (Found r) Gone rs e = absurd (let never : Gone ≡ All rs = e in cc)
joined_all (Waits d) (All qs) rs e = absurd (let never : First d ≡ All rs = e in cc)
joined_all (Waits d) (First c) rs e = absurd (let never : First d ≡ All rs = e in cc)
joined_all (Waits d) Gone rs e = absurd (let never : Gone ≡ All rs = e in cc)
joined_all (Broken rule spots) y rs e = absurd (let never : Gone ≡ All rs = e in cc)
joined_all Nothing y rs e = absurd (let never : Gone ≡ All rs = e in cc)

pub together_all : {R : Type 0} (xs : List (OutcomeData R)) (rs : List R) → together xs ≡ All rs → xs ≡ map Found rs
together_all [] rs e = let same : All [] ≡ All rs = e in let none : [] ≡ rs = cc in rw (← none) refl
together_all (x ∷ xs) rs e =
    let w = joined_all x (together xs) rs e in
    let rest = together_all xs w.1 w.3 in
    ap (λ y. y ∷ xs) w.2 ∙ ap (◌∷◌ (Found w.0)) rest ∙ ap (map Found) (sym w.4)

pub all_together : {R : Type 0} (rs : List R) → together (map Found rs) ≡ All rs
all_together [] = refl
all_together (r ∷ rs) = rw (all_together rs) refl

-- the rule of a test that ends, and what comes behind it
ruled_found : {R : Type 0} (rule : Rule) (v : RuleEnd) (x : OutcomeData R) (r : R) → ruled rule v x ≡ Found r → (v ≡ Yes) × (x ≡ Found r)
ruled_found rule (No spots) x r e = absurd (let never : Broken rule spots ≡ Found r = e in cc)
ruled_found rule (Lacking d) x r e = absurd (let never : Waits d ≡ Found r = e in cc)
ruled_found rule Yes x r e = (refl, e)

abbrev rule_told : {R : Type 0} → OutcomeData R → Option Rule
rule_told (Broken rule spots) = Some rule
rule_told (Found r) = None
rule_told (Waits d) = None
rule_told Nothing = None

abbrev spots_told : {R : Type 0} → OutcomeData R → List Spot
spots_told (Broken rule spots) = spots
spots_told (Found r) = []
spots_told (Waits d) = []
spots_told Nothing = []

ruled_broken : {R : Type 0} (own : Rule) (v : RuleEnd) (x : OutcomeData R) (rule : Rule) (spots : List Spot) → ruled own v x ≡ Broken rule spots → ((v ≡ No spots) × (own ≡ rule)) ⊎ ((v ≡ Yes) × (x ≡ Broken rule spots))
ruled_broken own (No ss) x rule spots e = inl (ap No (ap spots_told e), (let same : Some own ≡ Some rule = ap rule_told e in cc))
ruled_broken own (Lacking d) x rule spots e = absurd (let never : Waits d ≡ Broken rule spots = e in cc)
ruled_broken own Yes x rule spots e = inr (refl, e)

made_found : {R : Type 0} (x : Asked R) (r : R) → made x ≡ Found r → x ≡ Decided r
made_found (Decided q) r e = let same : Found q ≡ Found r = e in cc
made_found (Lacks d) r e = absurd (let never : Waits d ≡ Found r = e in cc)

made_not_broken : {R : Type 0} (x : Asked R) (rule : Rule) (spots : List Spot) → made x ≡ Broken rule spots → ⊥
made_not_broken (Decided r) rule spots e = let never : Found r ≡ Broken rule spots = e in cc
made_not_broken (Lacks d) rule spots e = let never : Waits d ≡ Broken rule spots = e in cc

module _ {H : Type 0} (headers : ℕ → Option H) where
  pub places_yes : (ps : List (SpotTest H)) → no_spots headers ps ≡ [] → first_lack headers ps ≡ None → AllByRecursion (λ p. run headers p.holds ≡ Decided true) ps
  places_yes [] e f = tt
  places_yes (p ∷ ps) e f =
      let w = here_yes p.spot (run headers p.holds) (no_spots headers ps) (first_lack headers ps) e f in
      (w.0, places_yes ps w.1 w.2)

  pub yes_places : (ps : List (SpotTest H)) → AllByRecursion (λ p. run headers p.holds ≡ Decided true) ps → rule_end (no_spots headers ps) (first_lack headers ps) ≡ Yes
  yes_places [] all = refl
  yes_places (p ∷ ps) all = rw all.0 (yes_places ps all.1)

-- the first rule that is No
record FirstNo {H : Type 0} (headers : ℕ → Option H) (ts : List (RuleTest H)) (rule : Rule) (spots : List Spot) : Type 0 where
  before : List (RuleTest H)
  test : RuleTest H
  behind : List (RuleTest H)
  order : ts ≡ before ++ test ∷ behind
  yes : AllYes headers before
  is_rule : test.rule ≡ rule
  no : no_spots headers test.spots ≡ spots
  some : spots ≢ []

module _ {H R : Type 0} (headers : ℕ → Option H) where
  tested_found : (ts : List (RuleTest H)) (q : Quest H R) (r : R) → tested headers ts q ≡ Found r → AllYes headers ts × (run headers q ≡ Decided r)
  tested_found [] q r e = (tt, made_found (run headers q) r e)
  tested_found (t ∷ ts) q r e =
      let w = ruled_found t.rule (end_on headers t) (tested headers ts q) r e in
      let v = end-Yes (no_spots headers t.spots) (first_lack headers t.spots) w.0 in
      let rest = tested_found ts q r w.1 in
      ((places_yes headers t.spots v.0 v.1, rest.0), rest.1)

  found_tested : (ts : List (RuleTest H)) (q : Quest H R) (r : R) → AllYes headers ts → run headers q ≡ Decided r → tested headers ts q ≡ Found r
  found_tested [] q r all e = ap made e
  found_tested (t ∷ ts) q r all e = ap (λ v. ruled t.rule v (tested headers ts q)) (yes_places headers t.spots all.0) ∙ found_tested ts q r all.1 e

  tested_broken : (ts : List (RuleTest H)) (q : Quest H R) (rule : Rule) (spots : List Spot) → tested headers ts q ≡ Broken rule spots → FirstNo headers ts rule spots
  tested_broken [] q rule spots e = absurd (made_not_broken (run headers q) rule spots e)
  tested_broken (t ∷ ts) q rule spots e = elim (ruled_broken t.rule (end_on headers t) (tested headers ts q) rule spots e) as (λ _. FirstNo headers (t ∷ ts) rule spots) [
    | inl w ↦ let v = end-No (no_spots headers t.spots) (first_lack headers t.spots) spots w.0 in
        record { before = []; test = t; behind = ts; order = refl; yes = tt; is_rule = w.1; no = v.0; some = v.1 }
    | inr w ↦ let v = end-Yes (no_spots headers t.spots) (first_lack headers t.spots) w.0 in
        let rest = tested_broken ts q rule spots w.1 in
        record { before = t ∷ rest.before; test = rest.test; behind = rest.behind; order = ap (λ l. t ∷ l) rest.order; yes = (places_yes headers t.spots v.0 v.1, rest.yes); is_rule = rest.is_rule; no = rest.no; some = rest.some }
  ]

  broken_tested : (before : List (RuleTest H)) (t : RuleTest H) (behind : List (RuleTest H)) (q : Quest H R) (rule : Rule) (spots : List Spot) → AllYes headers before → t.rule ≡ rule → no_spots headers t.spots ≡ spots → spots ≢ [] → tested headers (before ++ t ∷ behind) q ≡ Broken rule spots
  broken_tested [] t behind q rule spots all is_rule none some =
      let v = No-end (no_spots headers t.spots) (first_lack headers t.spots) (λ e. some (sym none ∙ e)) in
      ap (λ v. ruled t.rule v (tested headers behind q)) v ∙ ap (λ r. Broken r (no_spots headers t.spots)) is_rule ∙ ap (Broken rule) none
  broken_tested (b ∷ before) t behind q rule spots all is_rule none some =
      ap (λ v. ruled b.rule v (tested headers (before ++ t ∷ behind) q)) (yes_places headers b.spots all.0) ∙ broken_tested before t behind q rule spots all.1 is_rule none some

  -- A NODE

  -- a record or a broken rule shows that the tests were asked
  abbrev WasAsked : OutcomeData R → Type 0
  WasAsked (Found r) = Unit {0}
  WasAsked (Broken rule spots) = Unit {0}
  WasAsked (Waits d) = ⊥
  WasAsked Nothing = ⊥

  judged_asked : (s : Construct H R) (xs : List (OutcomeData R)) → WasAsked (judged headers s xs) → (a : Asks H R) × IsAsked s xs a × (judged headers s xs ≡ tested headers a.tests a.gives)
  judged_asked s xs was = go (together (map (outcome_at xs) s.operands)) refl was
    where
      tests : (rs : List R) → together (map (outcome_at xs) s.operands) ≡ All rs → (a : Option (Asks H R)) → s.asks rs ≡ a → WasAsked (asked headers a) → (b : Asks H R) × IsAsked s xs b × (judged headers s xs ≡ tested headers b.tests b.gives)
      tests rs all None e was = absurd was
      tests rs all (Some a) e was = (a, record { records = rs; operands = together_all (map (outcome_at xs) s.operands) rs all; asked = e }, ap (λ y. with_records headers y s.asks) all ∙ ap (asked headers) e)

      go : (y : Operands R) → together (map (outcome_at xs) s.operands) ≡ y → WasAsked (with_records headers y s.asks) → (b : Asks H R) × IsAsked s xs b × (judged headers s xs ≡ tested headers b.tests b.gives)
      go (All rs) all was = tests rs all (s.asks rs) refl was
      go (First d) all was = absurd was
      go Gone all was = absurd was

  pub asked_judged : (s : Construct H R) (xs : List (OutcomeData R)) (a : Asks H R) → IsAsked s xs a → judged headers s xs ≡ tested headers a.tests a.gives
  asked_judged s xs a is =
      let all = ap together is.operands ∙ all_together is.records in
      ap (λ y. with_records headers y s.asks) all ∙ ap (asked headers) is.asked

  pub judged_found : (s : Construct H R) (xs : List (OutcomeData R)) (r : R) → judged headers s xs ≡ Found r → HasRecord headers s xs r
  judged_found s xs r e =
      let a = judged_asked s xs (subst WasAsked (sym e) tt) in
      let w = tested_found a.0.tests a.0.gives r (sym a.2 ∙ e) in
      record { asks = a.0; asked = a.1; yes = w.0; gives = w.1 }

  pub found_judged : (s : Construct H R) (xs : List (OutcomeData R)) (r : R) → HasRecord headers s xs r → judged headers s xs ≡ Found r
  found_judged s xs r has = asked_judged s xs has.asks has.asked ∙ found_tested has.asks.tests has.asks.gives r has.yes has.gives

  pub judged_broken : (s : Construct H R) (xs : List (OutcomeData R)) (rule : Rule) (spots : List Spot) → judged headers s xs ≡ Broken rule spots → Breaks headers s xs rule spots
  judged_broken s xs rule spots e =
      let a = judged_asked s xs (subst WasAsked (sym e) tt) in
      let w = tested_broken a.0.tests a.0.gives rule spots (sym a.2 ∙ e) in
      record { asks = a.0; asked = a.1; before = w.before; test = w.test; behind = w.behind; order = w.order; yes = w.yes; is_rule = w.is_rule; no = w.no; some = w.some }

  pub broken_judged : (s : Construct H R) (xs : List (OutcomeData R)) (rule : Rule) (spots : List Spot) → Breaks headers s xs rule spots → judged headers s xs ≡ Broken rule spots
  broken_judged s xs rule spots b =
      asked_judged s xs b.asks b.asked
      ∙ ap (λ ts. tested headers ts b.asks.gives) b.order
      ∙ broken_tested b.before b.test b.behind b.asks.gives rule spots b.yes b.is_rule b.no b.some
