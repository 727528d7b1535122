-- Levels of open brackets: what the marks are where there is an enclosing level, or none.
use Rattle.std.proofs.Common.{◌≡◌, ℕ, suc, ◌+◌, ◌-◌, List, [], ◌∷◌, ◌++◌, length, refl, ap, sym, ◌∙◌, arith}
use Rattle.std.proofs.lemmas.List.{same_from_push}
use Rattle.go_tree.specs.Height.{Mark, Bracket, Lasting, Passing, behind_close, behind_separator}
use Rattle.go_parse_x.specs.declared.heights.Level.{Level}
use Rattle.go_parse_x.specs.declared.heights.Levels.{Levels}
use Rattle.go_parse_x.specs.Machine.Heights.{lasting_in, passing_in, level_in, enclosing, AreLevels}

-- where there is an enclosing level, the marks below the innermost bracket have it
pub record Below (ms : List Mark) (levels : List Level) (level : Level) : Type 0 where
  pub marks : List Mark
  pub closed : behind_close ms ≡ Passing ∷ marks
  pub outer : enclosing marks ≡ levels
  pub inner : level_in marks ≡ level
  pub count : length ms ≡ lasting_in ms + passing_in ms + (1 + length marks)

pub below : (ms : List Mark) (levels : List Level) (level : Level) → levels ++ level ∷ [] ≡ enclosing ms → Below ms levels level
below [] [] level h = cc
below [] (x ∷ levels) level h = cc
below (Bracket ∷ ms) levels level h = record {
  marks = ms;
  closed = refl;
  outer = sym (same_from_push levels (enclosing ms) level (level_in ms) h).0;
  inner = sym (same_from_push levels (enclosing ms) level (level_in ms) h).1;
  count = omega arith;
}
below (Lasting ∷ ms) levels level h =
    let b = below ms levels level h in
    let n = b.count in
    record {
      marks = b.marks;
      closed = b.closed;
      outer = b.outer;
      inner = b.inner;
      count = omega arith;
    }
below (Passing ∷ ms) levels level h =
    let b = below ms levels level h in
    let n = b.count in
    record {
      marks = b.marks;
      closed = b.closed;
      outer = b.outer;
      inner = b.inner;
      count = omega arith;
    }

-- with no bracket open a closing one leaves none of them
pub nothing_left : (ms : List Mark) → enclosing ms ≡ [] → behind_close ms ≡ []
nothing_left [] h = refl
nothing_left (Bracket ∷ ms) h = go (enclosing ms) h
  where
    go : (xs : List Level) → xs ++ level_in ms ∷ [] ≡ [] → Passing ∷ ms ≡ []
    go [] q = cc
    go (x ∷ xs) q = cc
nothing_left (Lasting ∷ ms) h = nothing_left ms h
nothing_left (Passing ∷ ms) h = nothing_left ms h

-- behind a separator
pub separated_outer : (ms : List Mark) → enclosing (behind_separator ms) ≡ enclosing ms
separated_outer [] = refl
separated_outer (Bracket ∷ ms) = refl
separated_outer (Lasting ∷ ms) = separated_outer ms
separated_outer (Passing ∷ ms) = separated_outer ms

pub separated_lasting : (ms : List Mark) → lasting_in (behind_separator ms) ≡ lasting_in ms
separated_lasting [] = refl
separated_lasting (Bracket ∷ ms) = refl
separated_lasting (Lasting ∷ ms) = ap (λ n. suc n) (separated_lasting ms)
separated_lasting (Passing ∷ ms) = separated_lasting ms

pub separated_passing : (ms : List Mark) → passing_in (behind_separator ms) ≡ 0
separated_passing [] = refl
separated_passing (Bracket ∷ ms) = refl
separated_passing (Lasting ∷ ms) = separated_passing ms
separated_passing (Passing ∷ ms) = separated_passing ms

pub separated_count : (ms : List Mark) → length (behind_separator ms) + passing_in ms ≡ length ms
separated_count [] = refl
separated_count (Bracket ∷ ms) = omega arith
separated_count (Lasting ∷ ms) = let h = separated_count ms in omega arith
separated_count (Passing ∷ ms) = let h = separated_count ms in omega arith

abbrev level : ℕ → ℕ → Level
level n k = record { lasting = n; passing = k }

abbrev two_more : Level → Level
two_more l = level l.lasting (suc (suc l.passing))

pub separated : (old new : Levels) (ms : List Mark) → AreLevels old ms → new.outer.items ≡ old.outer.items → new.inner ≡ record { lasting = old.inner.lasting; passing = 0 } → new.total ≡ old.total - old.inner.passing → AreLevels new (behind_separator ms)
separated old new ms h outer inner total =
    let passing : old.inner.passing ≡ passing_in ms = ap (λ (l : Level). l.passing) h.inner in
    let count = separated_count ms in
    let all = h.total in
    record {
      outer = outer ∙ (h.outer ∙ sym (separated_outer ms));
      inner = inner ∙ rw (separated_lasting ms, separated_passing ms) (ap (λ n. level n 0) (ap (λ (l : Level). l.lasting) h.inner));
      total = omega arith;
    }

-- behind a closing bracket
pub closed_within : (new : Levels) (inner level : Level) (levels : List Level) (total : ℕ) (ms : List Mark) → levels ++ level ∷ [] ≡ enclosing ms → inner ≡ level_in ms → total ≡ length ms → new.outer.items ≡ levels → new.inner ≡ record { lasting = level.lasting; passing = level.passing + 2 } → new.total ≡ total - inner.lasting - inner.passing + 1 → AreLevels new (Passing ∷ behind_close ms)
closed_within new inner level levels total ms around here all new_outer new_inner new_total =
    let b = below ms levels level around in
    let lasting : inner.lasting ≡ lasting_in ms = ap (λ (l : Level). l.lasting) here in
    let passing : inner.passing ≡ passing_in ms = ap (λ (l : Level). l.passing) here in
    let count = b.count in
    let two : level.passing + 2 ≡ suc (suc level.passing) = omega arith in
    rw b.closed record {
      outer = new_outer ∙ sym b.outer;
      inner = new_inner ∙ rw two (ap two_more (sym b.inner));
      total = omega arith;
    }

pub closed_outside : (old new : Levels) (ms : List Mark) → AreLevels old ms → old.outer.items ≡ [] → new.outer.items ≡ [] → new.inner ≡ record { lasting = 0; passing = 1 } → new.total ≡ 1 → AreLevels new (Passing ∷ behind_close ms)
closed_outside old new ms h old_outer new_outer new_inner new_total =
    rw (nothing_left ms (sym h.outer ∙ old_outer)) record { outer = new_outer; inner = new_inner; total = new_total }
