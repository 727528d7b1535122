-- What stays of how a rule ends, as the map of headers grows.
use Rattle.std.proofs.Common.{◌≡◌, ℕ, Bool, true, false, Option, Some, None, List, [], ◌∷◌, ◌<◌, refl, ap, inl, inr, arith, subst}
use Rattle.std.specs.Prelude.{Contains}
use Rattle.std.proofs.lemmas.List.Elements.{Contains-append_left, Contains-append_right, Contains-append_cases}
use Rattle.go_judge.specs.declared.outcome.Spot.{Spot}
use Rattle.go_judge.specs.Judged.{Lacking, No, SpotTest, RuleTest, RuleEnd, Yes, first_lack, lack_or, no_spots, spot_if_no, rule_end, end_on}
use Rattle.go_judge.specs.Quests.{Asked, Decided, IsPart, Lacks, Stays, run}
use Rattle.go_judge.proofs.QuestLemmas.{run-Lacks, run-stays}

no_element : (x : Spot) → Contains [] x → ⊥
no_element x c = let never : c.0 < 0 = c.1 in omega arith

first_element : (x : Spot) (xs : List Spot) → Contains (x ∷ xs) x
first_element x xs = (0, omega arith, refl)

-- while the header of d is missing, the rule lacks it as before, or is No at some place
abbrev pub LacksOrNo : ℕ → RuleEnd → Type 0
LacksOrNo d (No spots) = Unit {0}
LacksOrNo d (Lacking e) = e ≡ d
LacksOrNo d Yes = ⊥

-- No at these places and maybe more
pub record StillNo (spots : List Spot) (later : RuleEnd) : Type 0 where
  pub spots_then : List Spot
  pub no : later ≡ No spots_then
  pub among : (s : Spot) → Contains spots s → Contains spots_then s

abbrev pub EndStays : {H : Type 0} → (ℕ → Option H) → RuleEnd → RuleEnd → Type 0
EndStays more (No spots) later = StillNo spots later
EndStays more (Lacking d) later = more d ≡ None → LacksOrNo d later
EndStays more Yes later = later ≡ Yes

-- a header that is lacking stays so while it is missing, and no other comes
abbrev LackStays : {H : Type 0} → (ℕ → Option H) → Option ℕ → Option ℕ → Type 0
LackStays more (Some d) later = more d ≡ None → later ≡ Some d
LackStays more None later = later ≡ None

lack_or-stays : {H : Type 0} (more : ℕ → Option H) (x y : Asked Bool) (o u : Option ℕ) → Stays more x y → LackStays more o u → LackStays more (lack_or x o) (lack_or y u)
lack_or-stays more (Decided b) y o u p q = let e : y ≡ Decided b = p in rw e q
lack_or-stays more (Lacks d) y o u p q = λ missing. ap (λ x. lack_or x u) (p missing)

spot_if_no-among : {H : Type 0} (more : ℕ → Option H) (spot : Spot) (x y : Asked Bool) → Stays more x y → (s : Spot) → Contains (spot_if_no spot x) s → Contains (spot_if_no spot y) s
spot_if_no-among more spot (Decided true) y e s c = let same : y ≡ Decided true = e in rw same c
spot_if_no-among more spot (Decided false) y e s c = let same : y ≡ Decided false = e in rw same c
spot_if_no-among more spot (Lacks d) y e s c = absurd (no_element s c)

-- where no header is lacking, the same places
same_if_decided : {H : Type 0} (more : ℕ → Option H) (spot : Spot) (x y : Asked Bool) (o : Option ℕ) → Stays more x y → lack_or x o ≡ None → (spot_if_no spot y ≡ spot_if_no spot x) × (o ≡ None)
same_if_decided more spot (Decided b) y o s e = (ap (spot_if_no spot) s, e)
same_if_decided more spot (Lacks d) y o s e = absurd (let never : Some d ≡ None = e in cc)

module _ {H : Type 0} (known more : ℕ → Option H) (part : IsPart known more) where
  first_lack-stays : (ps : List (SpotTest H)) → LackStays more (first_lack known ps) (first_lack more ps)
  first_lack-stays [] = refl
  first_lack-stays (p ∷ ps) = lack_or-stays more (run known p.holds) (run more p.holds) (first_lack known ps) (first_lack more ps) (run-stays known more part p.holds) (first_lack-stays ps)

  no_spots-among : (ps : List (SpotTest H)) (s : Spot) → Contains (no_spots known ps) s → Contains (no_spots more ps) s
  no_spots-among [] s c = c
  no_spots-among (p ∷ ps) s c =
      elim (Contains-append_cases (spot_if_no p.spot (run known p.holds)) (no_spots known ps) s c) as (λ _. Contains (no_spots more (p ∷ ps)) s) [
        | inl here ↦ Contains-append_left (spot_if_no p.spot (run more p.holds)) (no_spots more ps) s (spot_if_no-among more p.spot (run known p.holds) (run more p.holds) (run-stays known more part p.holds) s here)
        | inr later ↦ Contains-append_right (spot_if_no p.spot (run more p.holds)) (no_spots more ps) s (no_spots-among ps s later)
      ]

  no_spots-same : (ps : List (SpotTest H)) → first_lack known ps ≡ None → no_spots more ps ≡ no_spots known ps
  no_spots-same [] e = refl
  no_spots-same (p ∷ ps) e =
      let here = same_if_decided more p.spot (run known p.holds) (run more p.holds) (first_lack known ps) (run-stays known more part p.holds) e in
      rw (here.0, no_spots-same ps here.1) refl

end-stays : {H : Type 0} (more : ℕ → Option H) (ss us : List Spot) (o u : Option ℕ) → ((s : Spot) → Contains ss s → Contains us s) → LackStays more o u → (o ≡ None → us ≡ ss) → EndStays more (rule_end ss o) (rule_end us u)
end-stays more (s ∷ ss) [] o u among lack same = absurd (no_element s (among s (first_element s ss)))
end-stays more (s ∷ ss) (v ∷ us) o u among lack same = record { spots_then = v ∷ us; no = refl; among = among }
end-stays more [] us None u among lack same = rw (same refl, lack) refl
end-stays more [] (v ∷ us) (Some d) u among lack same = λ missing. tt
end-stays more [] [] (Some d) u among lack same = λ missing. rw (lack missing) refl

pub end_on-stays : {H : Type 0} (known more : ℕ → Option H) → IsPart known more → (t : RuleTest H) → EndStays more (end_on known t) (end_on more t)
end_on-stays known more part t =
    end-stays more (no_spots known t.spots) (no_spots more t.spots) (first_lack known t.spots) (first_lack more t.spots)
    (no_spots-among known more part t.spots) (first_lack-stays known more part t.spots) (no_spots-same known more part t.spots)

-- what a rule lacks is missing
first_lack-is : {H : Type 0} (known : ℕ → Option H) (ps : List (SpotTest H)) (d : ℕ) → first_lack known ps ≡ Some d → known d ≡ None
first_lack-is known [] d e = absurd (let never : None ≡ Some d = e in cc)
first_lack-is {H} known (p ∷ ps) d e = go (run known p.holds) refl (first_lack-is known ps d) e
  where
    go : (x : Asked Bool) → run known p.holds ≡ x → (first_lack known ps ≡ Some d → known d ≡ None) → lack_or x (first_lack known ps) ≡ Some d → known d ≡ None
    go (Decided b) r rest e = rest e
    go (Lacks c) r rest e = let same : Some c ≡ Some d = e in let c_is : c ≡ d = cc in run-Lacks known p.holds d (subst (λ n. run known p.holds ≡ Lacks n) c_is r)

pub end-Lacking : (ss : List Spot) (o : Option ℕ) (d : ℕ) → rule_end ss o ≡ Lacking d → (ss ≡ []) × (o ≡ Some d)
end-Lacking (s ∷ ss) o d e = absurd (let never : No (s ∷ ss) ≡ Lacking d = e in cc)
end-Lacking [] None d e = absurd (let never : Yes ≡ Lacking d = e in cc)
end-Lacking [] (Some c) d e = (refl, let same : Lacking c ≡ Lacking d = e in let is : c ≡ d = cc in ap Some is)

pub end_on-Lacking : {H : Type 0} (known : ℕ → Option H) (t : RuleTest H) (d : ℕ) → end_on known t ≡ Lacking d → known d ≡ None
end_on-Lacking known t d e = first_lack-is known t.spots d (end-Lacking (no_spots known t.spots) (first_lack known t.spots) d e).1
