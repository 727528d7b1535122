-- Counting back gives the height.
use Rattle.std.proofs.Common.{◌≡◌, ℕ, zero, suc, ◌+◌, ◌-◌, ◌<◌, ◌≤◌, Bool, true, false, List, [], ◌∷◌, length, take, None, refl, ap, sym, subst, ◌∙◌, arith}
use Rattle.std.specs.Prelude.{if◌then◌else◌, fold}
use Rattle.go_tree.specs.declared.token.Token.{Token}
use Rattle.go_tree.specs.declared.token_height.Role.{Role}
use Rattle.go_tree.specs.declared.token_height.Role.TheVariants.{Opens, Closes, Separates, CountsOn, Counts}
use Rattle.go_tree.specs.Height.{Mark, Counted, counted, counted_at, Bracket, Lasting, Passing, behind_close, behind_separator, marks_behind, left}

twice : (ms : List Mark) → behind_separator (behind_separator ms) ≡ behind_separator ms
twice [] = refl
twice (Bracket ∷ ms) = refl
twice (Lasting ∷ ms) = ap (λ xs. Lasting ∷ xs) (twice ms)
twice (Passing ∷ ms) = twice ms

closed_anyway : (ms : List Mark) → behind_close (behind_separator ms) ≡ behind_close ms
closed_anyway [] = refl
closed_anyway (Bracket ∷ ms) = refl
closed_anyway (Lasting ∷ ms) = closed_anyway ms
closed_anyway (Passing ∷ ms) = closed_anyway ms

-- the same count, where the role is known
by_role : (c d : ℕ) (n : ℕ) (s : Bool) (ms : List Mark) (r k : Role) → r ≡ k → d ≡ c + left n s (marks_behind ms k) → d ≡ c + left n s (marks_behind ms r)
by_role c d n s ms r k same h = subst (λ x. d ≡ c + left n s (marks_behind ms x)) (sym same) h

deeper : (n : ℕ) (s : Bool) (ms : List Mark) → left (suc n) s ms ≡ left n s (behind_close ms)
deeper n true ms = refl
deeper n false ms = refl

pub within_opens : (c n : ℕ) (s : Bool) (ms : List Mark) → 1 < n → c + left (n - 1) s ms ≡ c + left n s (marks_behind ms Opens)
within_opens c zero s ms inside = absurd (omega arith)
within_opens c (suc zero) s ms inside = absurd (omega arith)
within_opens c (suc (suc n)) s ms inside = let less : suc (suc n) - 1 ≡ suc n = omega arith in ap (λ x. c + x) (ap (λ m. left m s ms) less ∙ both s)
  where
    both : (b : Bool) → left (suc n) b ms ≡ left (suc (suc n)) b (Bracket ∷ ms)
    both true = refl
    both false = refl

pub within_opened : (c n : ℕ) (s : Bool) (ms : List Mark) → 0 < n → n ≤ 1 → (if s then c else c + 1) + left 0 s ms ≡ c + left n s (marks_behind ms Opens)
within_opened c zero s ms inside one = absurd (omega arith)
within_opened c (suc (suc n)) s ms inside one = absurd (omega arith)
within_opened c (suc zero) true ms inside one = refl
within_opened c (suc zero) false ms inside one = omega arith

pub within_closes : (c n : ℕ) (s : Bool) (ms : List Mark) (r : Role) → 0 < n → r ≡ Closes → c + left (n + 1) s ms ≡ c + left n s (marks_behind ms r)
within_closes c zero s ms r inside role = absurd (omega arith)
within_closes c (suc n) s ms r inside role = by_role c _ (suc n) s ms r Closes role (ap (λ x. c + x) (ap (λ m. left m s ms) more ∙ both s))
  where
    more : suc n + 1 ≡ suc (suc n)
    more = omega arith

    both : (b : Bool) → left (suc (suc n)) b ms ≡ left (suc n) b (Passing ∷ behind_close ms)
    both true = refl
    both false = refl

pub within_separates : (c n : ℕ) (s : Bool) (ms : List Mark) (r : Role) → 0 < n → r ≡ Separates → c + left n s ms ≡ c + left n s (marks_behind ms r)
within_separates c zero s ms r inside role = absurd (omega arith)
within_separates c (suc n) s ms r inside role = by_role c _ (suc n) s ms r Separates role (ap (λ x. c + x) (deeper n s ms ∙ (ap (λ xs. left n s xs) (sym (closed_anyway ms)) ∙ sym (deeper n s (behind_separator ms)))))

pub within_counts_on : (c n : ℕ) (s : Bool) (ms : List Mark) (r : Role) → 0 < n → r ≡ CountsOn → c + left n s ms ≡ c + left n s (marks_behind ms r)
within_counts_on c zero s ms r inside role = absurd (omega arith)
within_counts_on c (suc n) s ms r inside role = by_role c _ (suc n) s ms r CountsOn role (ap (λ x. c + x) (deeper n s ms ∙ sym (deeper n s (Lasting ∷ ms))))

pub within_counts : (c n : ℕ) (s : Bool) (ms : List Mark) (r : Role) → 0 < n → r ≡ Counts → c + left n s ms ≡ c + left n s (marks_behind ms r)
within_counts c zero s ms r inside role = absurd (omega arith)
within_counts c (suc n) s ms r inside role = by_role c _ (suc n) s ms r Counts role (ap (λ x. c + x) (deeper n s ms ∙ sym (deeper n s (Passing ∷ ms))))

-- behind the innermost open bracket
at_zero : (c d : ℕ) (n : ℕ) (s : Bool) (ms : List Mark) (r k : Role) → n ≡ 0 → r ≡ k → d ≡ c + left 0 s (marks_behind ms k) → d ≡ c + left n s (marks_behind ms r)
at_zero c d n s ms r k none same h = by_role c d n s ms r k same (subst (λ m. d ≡ c + left m s (marks_behind ms k)) (sym none) h)

pub innermost_opens : (c n : ℕ) (s : Bool) (ms : List Mark) (r : Role) → n ≡ 0 → r ≡ Opens → c + 1 + left 0 false ms ≡ c + left n s (marks_behind ms r)
innermost_opens c n s ms r none role = at_zero c _ n s ms r Opens none role (both s)
  where
    both : (b : Bool) → c + 1 + left 0 false ms ≡ c + left 0 b (Bracket ∷ ms)
    both true = omega arith
    both false = omega arith

pub innermost_closes : (c n : ℕ) (s : Bool) (ms : List Mark) (r : Role) → n ≡ 0 → r ≡ Closes → (if s then c else c + 1) + left 1 s ms ≡ c + left n s (marks_behind ms r)
innermost_closes c n s ms r none role = at_zero c _ n s ms r Closes none role (both s)
  where
    both : (b : Bool) → (if b then c else c + 1) + left 1 b ms ≡ c + left 0 b (Passing ∷ behind_close ms)
    both true = refl
    both false = omega arith

pub innermost_separates : (c n : ℕ) (s : Bool) (ms : List Mark) (r : Role) → n ≡ 0 → r ≡ Separates → c + left 0 true ms ≡ c + left n s (marks_behind ms r)
innermost_separates c n s ms r none role = at_zero c _ n s ms r Separates none role (both s)
  where
    both : (b : Bool) → c + left 0 true ms ≡ c + left 0 b (behind_separator ms)
    both true = ap (λ xs. c + length xs) (sym (twice ms))
    both false = refl

pub innermost_counts_on : (c n : ℕ) (s : Bool) (ms : List Mark) (r : Role) → n ≡ 0 → r ≡ CountsOn → c + 1 + left 0 s ms ≡ c + left n s (marks_behind ms r)
innermost_counts_on c n s ms r none role = at_zero c _ n s ms r CountsOn none role (both s)
  where
    both : (b : Bool) → c + 1 + left 0 b ms ≡ c + left 0 b (Lasting ∷ ms)
    both true = omega arith
    both false = omega arith

pub innermost_counts : (c n : ℕ) (s : Bool) (ms : List Mark) (r : Role) → n ≡ 0 → r ≡ Counts → (if s then c else c + 1) + left 0 s ms ≡ c + left n s (marks_behind ms r)
innermost_counts c n s ms r none role = at_zero c _ n s ms r Counts none role (both s)
  where
    both : (b : Bool) → (if b then c else c + 1) + left 0 b ms ≡ c + left 0 b (Passing ∷ ms)
    both true = refl
    both false = omega arith

-- at the start nothing counts
none_left : (closed : ℕ) (s : Bool) → left closed s [] ≡ 0
none_left zero true = refl
none_left zero false = refl
none_left (suc n) true = none_left n true
none_left (suc n) false = none_left n false

pub all_counted : (n i closed h : ℕ) (s : Bool) (ts : List Token) → i ≤ 0 → n + left closed s (counted (take i ts)).marks ≡ h → n ≡ h
all_counted n zero closed h s ts start same = let none = none_left closed s in omega (arith, same, none)
all_counted n (suc i) closed h s ts start same = absurd (omega arith)

-- the token before the last one is the last but for that one
before_last : (n : ℕ) (ts : List Token) (c : Counted) → suc n ≤ length ts → (fold counted_at c (take (suc n) ts)).before ≡ (fold counted_at c (take n ts)).last
before_last n [] c within = absurd (omega arith)
before_last zero (t ∷ ts) c within = refl
before_last (suc n) (t ∷ ts) c within = before_last n ts (counted_at c t) (omega arith)

pub kind_before_lem : (n : ℕ) (ts : List Token) → 0 < n → n ≤ length ts → (counted (take (n - 1) ts)).last ≡ (counted (take n ts)).before
kind_before_lem zero ts some within = absurd (omega arith)
kind_before_lem (suc n) ts some within =
    let less : suc n - 1 ≡ n = omega arith in
    ap (λ m. (counted (take m ts)).last) less ∙ sym (before_last n ts (record { marks = []; last = None; before = None }) within)
