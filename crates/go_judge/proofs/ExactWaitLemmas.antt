-- Where a node waits, and where it has nothing.
use Rattle.std.specs.Prelude.{Contains}
use Rattle.std.proofs.Common.{◌≡◌, ℕ, Option, Some, None, List, [], ◌∷◌, ◌++◌, map, ◌⊎◌, inl, inr, refl, sym, subst, ◌∙◌, ap}
use Rattle.std.specs.List.{AllByRecursion}
use Rattle.go_base.specs.declared.rule.Rule.{Rule}
use Rattle.go_judge.specs.Exactly.{AllYes, FirstWaits, HasFailed, HasNothing, JudgedExactly, TestLacks, WaitsFor}
use Rattle.go_judge.specs.Judged.{All, Asks, Broken, First, Found, Gone, Lacking, No, Nothing, Operands, OutcomeData, Construct, RuleTest, RuleEnd, Waits, Yes, asked, first_lack, joined, judged, made, no_spots, outcome_at, ruled, tested, together, end_on, with_records}
use Rattle.go_judge.specs.Quests.{Asked, Decided, Lacks, Quest, run}
use Rattle.go_judge.proofs.ExactLemmas.{all_together, asked_judged, broken_judged, found_judged, judged_broken, judged_found, places_yes, together_all, end-Yes, yes_places}
use Rattle.go_module.proofs.MemberLemmas.{cons_cases, contains_head, contains_none, contains_tail}
use Rattle.go_judge.proofs.EndLemmas.{end-Lacking}

-- OPERANDS

pub joined_gone : {R : Type 0} (x : OutcomeData R) → joined x Gone ≡ Gone
joined_gone (Found r) = refl
joined_gone (Broken rule spots) = refl
joined_gone (Waits d) = refl
joined_gone Nothing = refl

abbrev NoneFailed : {R : Type 0} → List (OutcomeData R) → Type 0
NoneFailed xs = AllByRecursion (λ x. HasFailed x → ⊥) xs

-- none of the operands has failed
abbrev NotGone : {R : Type 0} → Operands R → Type 0
NotGone (All rs) = Unit {0}
NotGone (First d) = Unit {0}
NotGone Gone = ⊥

joined-not_gone : {R : Type 0} (x : OutcomeData R) (y : Operands R) → NotGone (joined x y) → (HasFailed x → ⊥) × NotGone y
joined-not_gone (Found r) (All rs) n = (λ f. f, tt)
joined-not_gone (Found r) (First d) n = (λ f. f, tt)
joined-not_gone (Found r) Gone n = absurd n
joined-not_gone (Waits d) (All rs) n = (λ f. f, tt)
joined-not_gone (Waits d) (First e) n = (λ f. f, tt)
joined-not_gone (Waits d) Gone n = absurd n
joined-not_gone (Broken rule spots) y n = absurd n
joined-not_gone Nothing y n = absurd n

not_gone-joined : {R : Type 0} (x : OutcomeData R) (y : Operands R) → (HasFailed x → ⊥) → NotGone y → NotGone (joined x y)
not_gone-joined (Found r) (All rs) f n = tt
not_gone-joined (Found r) (First d) f n = tt
not_gone-joined (Found r) Gone f n = n
not_gone-joined (Waits d) (All rs) f n = tt
not_gone-joined (Waits d) (First e) f n = tt
not_gone-joined (Waits d) Gone f n = n
not_gone-joined (Broken rule spots) y f n = f tt
not_gone-joined Nothing y f n = f tt

none_failed : {R : Type 0} (xs : List (OutcomeData R)) → NotGone (together xs) → NoneFailed xs
none_failed [] n = tt
none_failed (x ∷ xs) n = let w = joined-not_gone x (together xs) n in (w.0, none_failed xs w.1)

not_gone : {R : Type 0} (xs : List (OutcomeData R)) → NoneFailed xs → NotGone (together xs)
not_gone [] f = tt
not_gone (x ∷ xs) f = not_gone-joined x (together xs) f.0 (not_gone xs f.1)

abbrev first_of : {R : Type 0} → Operands R → ℕ
first_of (First d) = d
first_of (All rs) = 0
first_of Gone = 0

abbrev awaited : {R : Type 0} → OutcomeData R → ℕ
awaited (Waits d) = d
awaited (Found r) = 0
awaited (Broken rule spots) = 0
awaited Nothing = 0

joined_first : {R : Type 0} (x : OutcomeData R) (y : Operands R) (d : ℕ) → joined x y ≡ First d → ((r : R) × (x ≡ Found r) × (y ≡ First d)) ⊎ ((x ≡ Waits d) × NotGone y)
joined_first (Found r) (All rs) d e = absurd (let never : All (r ∷ rs) ≡ First d = e in cc)
joined_first (Found r) (First c) d e = inl (r, refl, e)
joined_first (Found r) Gone d e = absurd (let never : Gone ≡ First d = e in cc)
joined_first (Waits c) (All rs) d e = inr (ap Waits (ap first_of e), tt)
joined_first (Waits c) (First b) d e = inr (ap Waits (ap first_of e), tt)
joined_first (Waits c) Gone d e = absurd (let never : Gone ≡ First d = e in cc)
joined_first (Broken rule spots) y d e = absurd (let never : Gone ≡ First d = e in cc)
joined_first Nothing y d e = absurd (let never : Gone ≡ First d = e in cc)

together_first : {R : Type 0} (xs : List (OutcomeData R)) (d : ℕ) → together xs ≡ First d → FirstWaits xs d
together_first [] d e = absurd (let never : All [] ≡ First d = e in cc)
together_first (x ∷ xs) d e = elim (joined_first x (together xs) d e) as (λ _. FirstWaits (x ∷ xs) d) [
  | inl w ↦ let rest = together_first xs d w.2 in
      record { before = w.0 ∷ rest.before; behind = rest.behind; order = ap (λ y. y ∷ xs) w.1 ∙ ap (λ l. Found w.0 ∷ l) rest.order; none_failed = rest.none_failed }
  | inr w ↦ record { before = []; behind = xs; order = ap (λ y. y ∷ xs) w.0; none_failed = none_failed xs w.1 }
]

waits-joined : {R : Type 0} (d : ℕ) (y : Operands R) → NotGone y → joined (Waits d) y ≡ First d
waits-joined d (All rs) n = refl
waits-joined d (First e) n = refl
waits-joined d Gone n = absurd n

first_together : {R : Type 0} (before : List R) (d : ℕ) (behind : List (OutcomeData R)) → NoneFailed behind → together (map Found before ++ Waits d ∷ behind) ≡ First d
first_together [] d behind f = waits-joined d (together behind) (not_gone behind f)
first_together (r ∷ before) d behind f = ap (joined (Found r)) (first_together before d behind f)

-- TESTS

ruled_waits : {R : Type 0} (rule : Rule) (v : RuleEnd) (x : OutcomeData R) (d : ℕ) → ruled rule v x ≡ Waits d → (v ≡ Lacking d) ⊎ ((v ≡ Yes) × (x ≡ Waits d))
ruled_waits rule (No spots) x d e = absurd (let never : Broken rule spots ≡ Waits d = e in cc)
ruled_waits rule (Lacking c) x d e = inl (ap Lacking (ap awaited e))
ruled_waits rule Yes x d e = inr (refl, e)

made_waits : {R : Type 0} (x : Asked R) (d : ℕ) → made x ≡ Waits d → x ≡ Lacks d
made_waits (Decided r) d e = absurd (let never : Found r ≡ Waits d = e in cc)
made_waits (Lacks c) d e = ap Lacks (ap awaited e)

module _ {H R : Type 0} (headers : ℕ → Option H) where
  -- a test lacks a header, or all are Yes and the record lacks one
  abbrev AskedLacks : List (RuleTest H) → Quest H R → ℕ → Type 0
  AskedLacks ts q d = TestLacks headers ts d ⊎ (AllYes headers ts × (run headers q ≡ Lacks d))

  tested_waits : (ts : List (RuleTest H)) (q : Quest H R) (d : ℕ) → tested headers ts q ≡ Waits d → AskedLacks ts q d
  tested_waits [] q d e = inr (tt, made_waits (run headers q) d e)
  tested_waits (t ∷ ts) q d e = elim (ruled_waits t.rule (end_on headers t) (tested headers ts q) d e) as (λ _. AskedLacks (t ∷ ts) q d) [
    | inl w ↦ let v = end-Lacking (no_spots headers t.spots) (first_lack headers t.spots) d w in
        inl (record { before = []; test = t; behind = ts; order = refl; yes = tt; no = v.0; lacks = v.1 })
    | inr w ↦ let v = end-Yes (no_spots headers t.spots) (first_lack headers t.spots) w.0 in
        let here = places_yes headers t.spots v.0 v.1 in
        elim (tested_waits ts q d w.1) as (λ _. AskedLacks (t ∷ ts) q d) [
          | inl l ↦ inl (record { before = t ∷ l.before; test = l.test; behind = l.behind; order = ap (λ z. t ∷ z) l.order; yes = (here, l.yes); no = l.no; lacks = l.lacks })
          | inr l ↦ inr ((here, l.0), l.1)
        ]
  ]

  lacks_tested : (before : List (RuleTest H)) (t : RuleTest H) (behind : List (RuleTest H)) (q : Quest H R) (d : ℕ) → AllYes headers before → no_spots headers t.spots ≡ [] → first_lack headers t.spots ≡ Some d → tested headers (before ++ t ∷ behind) q ≡ Waits d
  lacks_tested [] t behind q d all none lacks = rw (none, lacks) refl
  lacks_tested (b ∷ before) t behind q d all none lacks =
      ap (λ v. ruled b.rule v (tested headers (before ++ t ∷ behind) q)) (yes_places headers b.spots all.0) ∙ lacks_tested before t behind q d all.1 none lacks

  record_tested : (ts : List (RuleTest H)) (q : Quest H R) (d : ℕ) → AllYes headers ts → run headers q ≡ Lacks d → tested headers ts q ≡ Waits d
  record_tested [] q d all lacks = ap made lacks
  record_tested (t ∷ ts) q d all lacks = ap (λ v. ruled t.rule v (tested headers ts q)) (yes_places headers t.spots all.0) ∙ record_tested ts q d all.1 lacks

  -- A NODE

  pub judged_waits : (s : Construct H R) (xs : List (OutcomeData R)) (d : ℕ) → judged headers s xs ≡ Waits d → WaitsFor headers s xs d
  judged_waits s xs d e = go (together (map (outcome_at xs) s.operands)) refl e
    where
      tests : (rs : List R) → together (map (outcome_at xs) s.operands) ≡ All rs → (a : Option (Asks H R)) → s.asks rs ≡ a → asked headers a ≡ Waits d → WaitsFor headers s xs d
      tests rs all None e f = absurd (let never : Nothing ≡ Waits d = f in cc)
      tests rs all (Some a) e f = inr (a, record { records = rs; operands = together_all (map (outcome_at xs) s.operands) rs all; asked = e }, tested_waits a.tests a.gives d f)

      go : (y : Operands R) → together (map (outcome_at xs) s.operands) ≡ y → with_records headers y s.asks ≡ Waits d → WaitsFor headers s xs d
      go (All rs) all f = tests rs all (s.asks rs) refl f
      go (First c) first f = inl (together_first (map (outcome_at xs) s.operands) d (first ∙ ap First (ap awaited f)))
      go Gone gone f = absurd (let never : Nothing ≡ Waits d = f in cc)

  pub waits_judged : (s : Construct H R) (xs : List (OutcomeData R)) (d : ℕ) → WaitsFor headers s xs d → judged headers s xs ≡ Waits d
  waits_judged s xs d (inl w) = ap (λ y. with_records headers y s.asks) (ap together w.order ∙ first_together w.before d w.behind w.none_failed)
  waits_judged s xs d (inr (a, is_asked, inl l)) =
      asked_judged headers s xs a is_asked ∙ ap (λ ts. tested headers ts a.gives) l.order ∙ lacks_tested l.before l.test l.behind a.gives d l.yes l.no l.lacks
  waits_judged s xs d (inr (a, is_asked, inr l)) = asked_judged headers s xs a is_asked ∙ record_tested a.tests a.gives d l.0 l.1

-- NOTHING

-- one of these has failed
abbrev HasFailedIn : {R : Type 0} → List (OutcomeData R) → Type 0
HasFailedIn {R} xs = (x : OutcomeData R) × Contains xs x × HasFailed x

here_failed : {R : Type 0} (x : OutcomeData R) (xs : List (OutcomeData R)) → HasFailed x → HasFailedIn (x ∷ xs)
here_failed x xs f = (x, contains_head x xs x refl, f)

there_failed : {R : Type 0} (x : OutcomeData R) (xs : List (OutcomeData R)) → HasFailedIn xs → HasFailedIn (x ∷ xs)
there_failed x xs w = (w.0, contains_tail x xs w.0 w.1, w.2)

joined_failed : {R : Type 0} (x : OutcomeData R) (xs : List (OutcomeData R)) (y : Operands R) → joined x y ≡ Gone → (y ≡ Gone → HasFailedIn xs) → HasFailedIn (x ∷ xs)
joined_failed (Found r) xs (All rs) e rest = absurd (let never : All (r ∷ rs) ≡ Gone = e in cc)
joined_failed (Found r) xs (First d) e rest = absurd (let never : First d ≡ Gone = e in cc)
joined_failed (Found r) xs Gone e rest = there_failed (Found r) xs (rest refl)
joined_failed (Waits d) xs (All rs) e rest = absurd (let never : First d ≡ Gone = e in cc)
joined_failed (Waits d) xs (First c) e rest = absurd (let never : First d ≡ Gone = e in cc)
joined_failed (Waits d) xs Gone e rest = there_failed (Waits d) xs (rest refl)
joined_failed (Broken rule spots) xs y e rest = here_failed (Broken rule spots) xs tt
joined_failed Nothing xs y e rest = here_failed Nothing xs tt

together_failed : {R : Type 0} (xs : List (OutcomeData R)) → together xs ≡ Gone → HasFailedIn xs
together_failed [] e = absurd (let never : All [] ≡ Gone = e in cc)
together_failed (x ∷ xs) e = joined_failed x xs (together xs) e (together_failed xs)

failed_joined : {R : Type 0} (x : OutcomeData R) (y : Operands R) → HasFailed x → joined x y ≡ Gone
failed_joined (Found r) y f = absurd f
failed_joined (Waits d) y f = absurd f
failed_joined (Broken rule spots) y f = refl
failed_joined Nothing y f = refl

failed_together : {R : Type 0} (xs : List (OutcomeData R)) (x : OutcomeData R) → Contains xs x → HasFailed x → together xs ≡ Gone
failed_together [] x c f = absurd (contains_none x c)
failed_together (y ∷ xs) x c f = elim (cons_cases y xs x c) as (λ _. joined y (together xs) ≡ Gone) [
  | inl here ↦ failed_joined y (together xs) (subst HasFailed (sym here) f)
  | inr there ↦ ap (joined y) (failed_together xs x there f) ∙ joined_gone y
]

ruled_some : {R : Type 0} (rule : Rule) (v : RuleEnd) (x : OutcomeData R) → (x ≡ Nothing → ⊥) → ruled rule v x ≡ Nothing → ⊥
ruled_some rule (No spots) x some e = let never : Broken rule spots ≡ Nothing = e in cc
ruled_some rule (Lacking d) x some e = let never : Waits d ≡ Nothing = e in cc
ruled_some rule Yes x some e = some e

made_some : {R : Type 0} (x : Asked R) → made x ≡ Nothing → ⊥
made_some (Decided r) e = let never : Found r ≡ Nothing = e in cc
made_some (Lacks d) e = let never : Waits d ≡ Nothing = e in cc

module _ {H R : Type 0} (headers : ℕ → Option H) where
  tested_some : (ts : List (RuleTest H)) (q : Quest H R) → tested headers ts q ≡ Nothing → ⊥
  tested_some [] q e = made_some (run headers q) e
  tested_some (t ∷ ts) q e = ruled_some t.rule (end_on headers t) (tested headers ts q) (tested_some ts q) e

  judged_nothing : (s : Construct H R) (xs : List (OutcomeData R)) → judged headers s xs ≡ Nothing → HasNothing s xs
  judged_nothing s xs e = go (together (map (outcome_at xs) s.operands)) refl e
    where
      asks : (rs : List R) → together (map (outcome_at xs) s.operands) ≡ All rs → (a : Option (Asks H R)) → s.asks rs ≡ a → asked headers a ≡ Nothing → HasNothing s xs
      asks rs all None e f = inr (rs, together_all (map (outcome_at xs) s.operands) rs all, e)
      asks rs all (Some a) e f = absurd (tested_some a.tests a.gives f)

      go : (y : Operands R) → together (map (outcome_at xs) s.operands) ≡ y → with_records headers y s.asks ≡ Nothing → HasNothing s xs
      go (All rs) all f = asks rs all (s.asks rs) refl f
      go (First d) first f = absurd (made_some (Lacks d) f)
      go Gone gone f = inl (together_failed (map (outcome_at xs) s.operands) gone)

  nothing_judged : (s : Construct H R) (xs : List (OutcomeData R)) → HasNothing s xs → judged headers s xs ≡ Nothing
  nothing_judged s xs (inl w) = ap (λ y. with_records headers y s.asks) (failed_together (map (outcome_at xs) s.operands) w.0 w.1 w.2)
  nothing_judged s xs (inr w) =
      ap (λ y. with_records headers y s.asks) (ap together w.1 ∙ all_together w.0) ∙ ap (asked headers) w.2

pub judged_exactly : {H R : Type 0} (headers : ℕ → Option H) (s : Construct H R) (xs : List (OutcomeData R)) → JudgedExactly headers s xs
judged_exactly headers s xs = record {
  found = λ v. (judged_found headers s xs v, found_judged headers s xs v);
  broken = λ rule spots. (judged_broken headers s xs rule spots, broken_judged headers s xs rule spots);
  waits = λ d. (judged_waits headers s xs d, waits_judged headers s xs d);
  nothing = (judged_nothing headers s xs, nothing_judged headers s xs);
}
