-- What stays of a question as the map of headers grows.
use Rattle.std.proofs.Common.{◌≡◌, ℕ, Option, Some, None, refl, sym, ap, subst}
use Rattle.go_judge.specs.Quests.{Asked, Decided, Lacks, Quest, Done, Need, run, IsPart, Stays, then_ask}

-- a question whose header is there, or is missing
pub run-Some : {H A : Type 0} (known : ℕ → Option H) (d : ℕ) (next : H → Quest H A) (h : H) → known d ≡ Some h → run known (Need d next) ≡ run known (next h)
run-Some {H} {A} known d next h e = ap (λ (o : Option H). elim o as (λ _. Asked A) [ None ↦ Lacks d | Some h ↦ run known (next h) ]) e

pub run-None : {H A : Type 0} (known : ℕ → Option H) (d : ℕ) (next : H → Quest H A) → known d ≡ None → run known (Need d next) ≡ Lacks d
run-None {H} {A} known d next e = ap (λ (o : Option H). elim o as (λ _. Asked A) [ None ↦ Lacks d | Some h ↦ run known (next h) ]) e

-- what a question comes to stays as the map grows
pub run-stays : {H A : Type 0} (known more : ℕ → Option H) → IsPart known more → (q : Quest H A) → Stays more (run known q) (run more q)
run-stays known more part (Done a) = refl
run-stays {H} {A} known more part (Need d next) = go (known d) refl (λ h. run-stays known more part (next h))
  where
    go : (o : Option H) → known d ≡ o → ((h : H) → Stays more (run known (next h)) (run more (next h)))
        → Stays more (elim o as (λ _. Asked A) [ None ↦ Lacks d | Some h ↦ run known (next h) ]) (run more (Need d next))
    go None e stays = λ missing. run-None more d next missing
    go (Some h) e stays = subst (Stays more (run known (next h))) (sym (run-Some more d next h (part d h e))) (stays h)

-- the header that a question lacks is missing
pub run-Lacks : {H A : Type 0} (known : ℕ → Option H) (q : Quest H A) (e : ℕ) → run known q ≡ Lacks e → known e ≡ None
run-Lacks {H} {A} known (Done a) e p = absurd (let never : Decided a ≡ Lacks e = p in cc)
run-Lacks {H} {A} known (Need d next) e p = go (known d) refl (λ h. run-Lacks known (next h) e) p
  where
    lacks : ℕ → Asked A
    lacks x = Lacks x

    go : (o : Option H) → known d ≡ o → ((h : H) → run known (next h) ≡ Lacks e → known e ≡ None)
        → elim o as (λ _. Asked A) [ None ↦ Lacks d | Some h ↦ run known (next h) ] ≡ Lacks e → known e ≡ None
    go None f rest r = let same : lacks d ≡ lacks e = r in let is : d ≡ e = cc in subst (λ x. known x ≡ None) is f
    go (Some h) f rest r = rest h r

-- what a question comes to behind another one, by what that comes to
pub run-then : {H A B : Type 0} (known : ℕ → Option H) (q : Quest H A) (next : A → Quest H B) (a : A) → run known q ≡ Decided a → run known (then_ask q next) ≡ run known (next a)
run-then {H} {A} {B} known (Done x) next a e = let is : x ≡ a = cc in ap (λ y. run known (next y)) is
run-then {H} {A} {B} known (Need d go_on) next a e = go (known d) (λ h. run-then known (go_on h) next a) e
  where
    go : (o : Option H) → ((h : H) → run known (go_on h) ≡ Decided a → run known (then_ask (go_on h) next) ≡ run known (next a))
        → elim o as (λ _. Asked A) [ None ↦ Lacks d | Some h ↦ run known (go_on h) ] ≡ Decided a
        → elim o as (λ _. Asked B) [ None ↦ Lacks d | Some h ↦ run known (then_ask (go_on h) next) ] ≡ run known (next a)
    go None each f = absurd (let never : Lacks d ≡ Decided a = f in cc)
    go (Some h) each f = each h f

pub run-then-Lacks : {H A B : Type 0} (known : ℕ → Option H) (q : Quest H A) (next : A → Quest H B) (e : ℕ) → run known q ≡ Lacks e → run known (then_ask q next) ≡ Lacks e
run-then-Lacks {H} {A} {B} known (Done x) next e p = absurd (let never : Decided x ≡ Lacks e = p in cc)
run-then-Lacks {H} {A} {B} known (Need d go_on) next e p = go (known d) (λ h. run-then-Lacks known (go_on h) next e) p
  where
    lacks_a : ℕ → Asked A
    lacks_a x = Lacks x

    go : (o : Option H) → ((h : H) → run known (go_on h) ≡ Lacks e → run known (then_ask (go_on h) next) ≡ Lacks e)
        → elim o as (λ _. Asked A) [ None ↦ Lacks d | Some h ↦ run known (go_on h) ] ≡ Lacks e
        → elim o as (λ _. Asked B) [ None ↦ Lacks d | Some h ↦ run known (then_ask (go_on h) next) ] ≡ Lacks e
    go None each f = let same : lacks_a d ≡ lacks_a e = f in let is : d ≡ e = cc in ap (λ x. Lacks x) is
    go (Some h) each f = each h f
