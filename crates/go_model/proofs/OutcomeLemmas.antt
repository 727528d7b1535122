-- What stays of the outcome of a node as the map of headers grows.
use Rattle.std.proofs.Common.{◌≡◌, ℕ, zero, suc, Option, Some, None, List, [], ◌∷◌, map, refl, sym, ap, subst, ◌⊎◌, inl, inr}
use Rattle.go_base.specs.declared.rule.Rule.{Rule}
use Rattle.std.specs.Prelude.{Contains}
use Rattle.go_tree.specs.Tree.{Tree}
use Rattle.go_module.proofs.MemberLemmas.{contains_head, contains_tail}
use Rattle.go_operands.specs.Operands.{operands_of}
use Rattle.go_operands.proofs.OperandLemmas.{by_operands, folded-operands}
use Rattle.go_judge.specs.Naming.{Naming}
use Rattle.go_judge.specs.Exactly.{HasFailed}
use Rattle.go_judge.specs.Judged.{All, Asks, Broken, First, Found, Gone, Lacking, No, Nothing, Operands, OutcomeData, Construct, RuleTest, RuleEnd, Waits, Yes, asked, joined, judged, made, outcome_at, ruled, tested, together, end_on, with_records}
use Rattle.go_model.specs.Outcomes.Stays.{OutcomeStays, StillBroken}
use Rattle.go_judge.specs.Quests.{Asked, Decided, IsPart, Lacks, Quest, Stays, run}
use Rattle.go_judge.specs.Headers.{Headers}
use Rattle.go_model.specs.Outcomes.Walk.{construct, operand_outcomes, outcome}
use Rattle.go_judge.proofs.QuestLemmas.{run-Lacks, run-stays}
use Rattle.go_judge.proofs.ExactWaitLemmas.{joined_gone}
use Rattle.go_judge.proofs.EndLemmas.{EndStays, end_on-Lacking, end_on-stays}

-- while the header of d is missing: it waits for d as before, or has failed
abbrev WaitsOrFailed : {R : Type 0} → ℕ → OutcomeData R → Type 0
WaitsOrFailed d (Found r) = ⊥
WaitsOrFailed d (Broken rule spots) = Unit {0}
WaitsOrFailed d (Waits e) = e ≡ d
WaitsOrFailed d Nothing = Unit {0}

-- how an outcome stands to the one over more headers
abbrev pub Lasts : {H R : Type 0} → (ℕ → Option H) → OutcomeData R → OutcomeData R → Type 0
Lasts more (Found r) later = later ≡ Found r
Lasts more (Broken rule spots) later = StillBroken rule spots later
Lasts more (Waits d) later = more d ≡ None → WaitsOrFailed d later
Lasts more Nothing later = later ≡ Nothing

-- while the header of d is missing: an operand waits for d as before, or has failed
abbrev FirstOrGone : {R : Type 0} → ℕ → Operands R → Type 0
FirstOrGone d (All rs) = ⊥
FirstOrGone d (First e) = e ≡ d
FirstOrGone d Gone = Unit {0}

abbrev OperandsLast : {H R : Type 0} → (ℕ → Option H) → Operands R → Operands R → Type 0
OperandsLast more (All rs) later = later ≡ All rs
OperandsLast more (First d) later = more d ≡ None → FirstOrGone d later
OperandsLast more Gone later = later ≡ Gone

-- each outcome of the list lasts
abbrev pub AllLast : {H R : Type 0} → (ℕ → Option H) → List (OutcomeData R) → List (OutcomeData R) → Type 0
AllLast more [] [] = Unit {0}
AllLast more (x ∷ xs) (y ∷ ys) = Lasts more x y × AllLast more xs ys
AllLast more xs ys = ⊥

-- OPERANDS

joined_found : {R : Type 0} (d : ℕ) (r : R) (y : Operands R) → FirstOrGone d y → FirstOrGone d (joined (Found r) y)
joined_found d r (All rs) s = s
joined_found d r (First e) s = s
joined_found d r Gone s = s

-- the operands behind the first that waits do not count, as long as they have not failed
joined_waits : {R : Type 0} (d : ℕ) (x : OutcomeData R) (y : Operands R) → WaitsOrFailed d x → FirstOrGone d (joined x y)
joined_waits d (Found r) y s = absurd s
joined_waits d (Broken rule spots) y s = tt
joined_waits d Nothing y s = tt
joined_waits d (Waits e) (All rs) s = s
joined_waits d (Waits e) (First c) s = s
joined_waits d (Waits e) Gone s = tt

module _ {H R : Type 0} (more : ℕ → Option H) where
  made-lasts : (x y : Asked R) → Stays more x y → Lasts more (made x) (made y)
  made-lasts (Decided r) y s = ap made s
  made-lasts (Lacks d) y s = λ missing. rw (s missing) refl

  ruled-lasts : (rule : Rule) (v w : RuleEnd) (x y : OutcomeData R) → EndStays more v w → Lasts more x y → Lasts more (ruled rule v x) (ruled rule w y)
  ruled-lasts rule (No spots) w x y s t = record { spots_then = s.spots_then; broken = ap (λ v. ruled rule v y) s.no; among = s.among }
  ruled-lasts rule (Lacking d) (No spots) x y s t = λ missing. tt
  ruled-lasts rule (Lacking d) (Lacking e) x y s t = s
  ruled-lasts rule (Lacking d) Yes x y s t = λ missing. absurd (s missing)
  ruled-lasts rule Yes w x y s t = let e : w ≡ Yes = s in rw e t

  joined-lasts : (x x' : OutcomeData R) (y y' : Operands R) → Lasts more x x' → OperandsLast more y y' → OperandsLast more (joined x y) (joined x' y')
  joined-lasts (Found r) x' (All rs) y' s t = let e : x' ≡ Found r = s in let f : y' ≡ All rs = t in rw (e, f) refl
  joined-lasts (Found r) x' (First d) y' s t = let e : x' ≡ Found r = s in rw e (λ missing. joined_found d r y' (t missing))
  joined-lasts (Found r) x' Gone y' s t = let f : y' ≡ Gone = t in rw f (joined_gone x')
  joined-lasts (Broken rule spots) x' y y' s t = rw s.broken refl
  joined-lasts Nothing x' y y' s t = let e : x' ≡ Nothing = s in rw e refl
  joined-lasts (Waits d) x' (All rs) y' s t = λ missing. joined_waits d x' y' (s missing)
  joined-lasts (Waits d) x' (First e) y' s t = λ missing. joined_waits d x' y' (s missing)
  joined-lasts (Waits d) x' Gone y' s t = let f : y' ≡ Gone = t in rw f (joined_gone x')

  outcome_at-lasts : (xs ys : List (OutcomeData R)) → AllLast more xs ys → (n : ℕ) → Lasts more (outcome_at xs n) (outcome_at ys n)
  outcome_at-lasts [] [] s n = refl
  outcome_at-lasts (x ∷ xs) (y ∷ ys) s zero = s.0
  outcome_at-lasts (x ∷ xs) (y ∷ ys) s (suc n) = outcome_at-lasts xs ys s.1 n
  outcome_at-lasts [] (y ∷ ys) s n = absurd s
  outcome_at-lasts (x ∷ xs) [] s n = absurd s

  together-last : (xs ys : List (OutcomeData R)) → AllLast more xs ys → (ns : List ℕ) → OperandsLast more (together (map (outcome_at xs) ns)) (together (map (outcome_at ys) ns))
  together-last xs ys s [] = refl
  together-last xs ys s (n ∷ ns) =
      joined-lasts (outcome_at xs n) (outcome_at ys n) (together (map (outcome_at xs) ns)) (together (map (outcome_at ys) ns))
      (outcome_at-lasts xs ys s n) (together-last xs ys s ns)

-- A NODE

module _ {H R : Type 0} (known more : ℕ → Option H) (part : IsPart known more) where
  tested-lasts : (ts : List (RuleTest H)) (gives : Quest H R) → Lasts more (tested known ts gives) (tested more ts gives)
  tested-lasts [] gives = made-lasts more (run known gives) (run more gives) (run-stays known more part gives)
  tested-lasts (t ∷ ts) gives = ruled-lasts more t.rule (end_on known t) (end_on more t) (tested known ts gives) (tested more ts gives) (end_on-stays known more part t) (tested-lasts ts gives)

  asked-lasts : (a : Option (Asks H R)) → Lasts more (asked known a) (asked more a)
  asked-lasts None = refl
  asked-lasts (Some a) = tested-lasts a.tests a.gives

  with_records-lasts : (y y' : Operands R) (asks : List R → Option (Asks H R)) → OperandsLast more y y' → Lasts more (with_records known y asks) (with_records more y' asks)
  with_records-lasts (All rs) y' asks s = let e : y' ≡ All rs = s in rw e (asked-lasts (asks rs))
  with_records-lasts Gone y' asks s = let e : y' ≡ Gone = s in rw e refl
  with_records-lasts (First d) (All rs) asks s = λ missing. absurd (s missing)
  with_records-lasts (First d) (First e) asks s = s
  with_records-lasts (First d) Gone asks s = λ missing. tt

  pub judged-lasts : (s : Construct H R) (xs ys : List (OutcomeData R)) → AllLast more xs ys → Lasts more (judged known s xs) (judged more s ys)
  judged-lasts s xs ys all =
      with_records-lasts (together (map (outcome_at xs) s.operands)) (together (map (outcome_at ys) s.operands)) s.asks (together-last more xs ys all s.operands)

-- WHAT A NODE WAITS FOR

abbrev pub WaitsLacking : {H R : Type 0} → (ℕ → Option H) → OutcomeData R → Type 0
WaitsLacking known (Waits d) = known d ≡ None
WaitsLacking known x = Unit {0}

abbrev FirstLacking : {H R : Type 0} → (ℕ → Option H) → Operands R → Type 0
FirstLacking known (First d) = known d ≡ None
FirstLacking known y = Unit {0}

abbrev pub EachLacking : {H R : Type 0} → (ℕ → Option H) → List (OutcomeData R) → Type 0
EachLacking known [] = Unit {0}
EachLacking known (x ∷ xs) = WaitsLacking known x × EachLacking known xs

module _ {H R : Type 0} (known : ℕ → Option H) where
  made-lacking : (q : Quest H R) (x : Asked R) → run known q ≡ x → WaitsLacking known (made x)
  made-lacking q (Decided r) e = tt
  made-lacking q (Lacks d) e = run-Lacks known q d e

  ruled-lacking : (t : RuleTest H) (v : RuleEnd) (x : OutcomeData R) → end_on known t ≡ v → WaitsLacking known x → WaitsLacking known (ruled t.rule v x)
  ruled-lacking t (No spots) x e w = tt
  ruled-lacking t (Lacking d) x e w = end_on-Lacking known t d e
  ruled-lacking t Yes x e w = w

  tested-lacking : (ts : List (RuleTest H)) (q : Quest H R) → WaitsLacking known (tested known ts q)
  tested-lacking [] q = made-lacking q (run known q) refl
  tested-lacking (t ∷ ts) q = ruled-lacking t (end_on known t) (tested known ts q) refl (tested-lacking ts q)

  joined-lacking : (x : OutcomeData R) (y : Operands R) → WaitsLacking known x → FirstLacking known y → FirstLacking known (joined x y)
  joined-lacking (Found r) (All rs) p q = tt
  joined-lacking (Found r) (First d) p q = q
  joined-lacking (Found r) Gone p q = tt
  joined-lacking (Waits d) (All rs) p q = p
  joined-lacking (Waits d) (First e) p q = p
  joined-lacking (Waits d) Gone p q = tt
  joined-lacking (Broken rule spots) y p q = tt
  joined-lacking Nothing y p q = tt

  outcome_at-lacking : (xs : List (OutcomeData R)) → EachLacking known xs → (n : ℕ) → WaitsLacking known (outcome_at xs n)
  outcome_at-lacking [] s n = tt
  outcome_at-lacking (x ∷ xs) s zero = s.0
  outcome_at-lacking (x ∷ xs) s (suc n) = outcome_at-lacking xs s.1 n

  together-lacking : (xs : List (OutcomeData R)) → EachLacking known xs → (ns : List ℕ) → FirstLacking known (together (map (outcome_at xs) ns))
  together-lacking xs s [] = tt
  together-lacking xs s (n ∷ ns) = joined-lacking (outcome_at xs n) (together (map (outcome_at xs) ns)) (outcome_at-lacking xs s n) (together-lacking xs s ns)

  asked-lacking : (a : Option (Asks H R)) → WaitsLacking known (asked known a)
  asked-lacking None = tt
  asked-lacking (Some a) = tested-lacking a.tests a.gives

  with_records-lacking : (y : Operands R) (asks : List R → Option (Asks H R)) → FirstLacking known y → WaitsLacking known (with_records known y asks)
  with_records-lacking (All rs) asks s = asked-lacking (asks rs)
  with_records-lacking (First d) asks s = s
  with_records-lacking Gone asks s = tt

  pub judged-lacking : (s : Construct H R) (xs : List (OutcomeData R)) → EachLacking known xs → WaitsLacking known (judged known s xs)
  judged-lacking s xs all = with_records-lacking (together (map (outcome_at xs) s.operands)) s.asks (together-lacking xs all s.operands)

-- THE WALK

-- a node by its operands
pub outcome-operands : (naming : Naming) (headers : Headers) (t : Tree) → outcome naming headers t ≡ judged headers (construct naming t) (operand_outcomes naming headers t)
outcome-operands naming headers t = folded-operands (λ node operands. judged headers (construct naming node) operands) t

module _ (naming : Naming) (known more : Headers) (part : IsPart known more) where
  abbrev LastsAt : Tree → Type 0
  LastsAt t = Lasts more (outcome naming known t) (outcome naming more t)

  pub all-last : (ts : List Tree) → ((u : Tree) → Contains ts u → LastsAt u) → AllLast more (map (outcome naming known) ts) (map (outcome naming more) ts)
  all-last [] each = tt
  all-last (t ∷ ts) each = (each t (contains_head t ts t refl), all-last ts (λ u h. each u (contains_tail t ts u h)))

  pub outcome-lasts : (t : Tree) → LastsAt t
  outcome-lasts = by_operands LastsAt (λ t each.
      subst (λ x. Lasts more x (outcome naming more t)) (sym (outcome-operands naming known t))
      (subst (λ y. Lasts more (judged known (construct naming t) (operand_outcomes naming known t)) y) (sym (outcome-operands naming more t))
      (judged-lasts known more part (construct naming t) (operand_outcomes naming known t) (operand_outcomes naming more t) (all-last (operands_of t) each))))

module _ (naming : Naming) (known : Headers) where
  pub each-lacking : (ts : List Tree) → ((u : Tree) → Contains ts u → WaitsLacking known (outcome naming known u)) → EachLacking known (map (outcome naming known) ts)
  each-lacking [] each = tt
  each-lacking (t ∷ ts) each = (each t (contains_head t ts t refl), each-lacking ts (λ u h. each u (contains_tail t ts u h)))

  pub outcome-lacking : (t : Tree) → WaitsLacking known (outcome naming known t)
  outcome-lacking = by_operands (λ t. WaitsLacking known (outcome naming known t)) (λ t each.
      subst (WaitsLacking known) (sym (outcome-operands naming known t))
      (judged-lacking known (construct naming t) (operand_outcomes naming known t) (each-lacking (operands_of t) each)))

either : {R : Type 0} (d : ℕ) (x : OutcomeData R) → WaitsOrFailed d x → (x ≡ Waits d) ⊎ HasFailed x
either d (Found r) w = absurd w
either d (Broken rule spots) w = inr tt
either d (Waits e) w = inl (ap Waits w)
either d Nothing w = inr tt

-- the laws, for every map and every larger one
pub outcome_stays : (naming : Naming) (known more : Headers) → IsPart known more → (t : Tree) → OutcomeStays naming known more t
outcome_stays naming known more part t =
    let lasts = outcome-lasts naming known more part t in
    record {
      found = λ v e. subst (λ x. Lasts more x (outcome naming more t)) e lasts;
      broken = λ rule spots e. subst (λ x. Lasts more x (outcome naming more t)) e lasts;
      nothing = λ e. subst (λ x. Lasts more x (outcome naming more t)) e lasts;
      waits = λ d e missing. either d (outcome naming more t) (subst (λ x. Lasts more x (outcome naming more t)) e lasts missing);
      lacks = λ d e. subst (WaitsLacking known) e (outcome-lacking naming known t);
    }
