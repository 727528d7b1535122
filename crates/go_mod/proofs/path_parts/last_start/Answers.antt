use Rattle.std.proofs.Common.{◌≡◌, ◌≤◌, ◌<◌, ◌-◌, ℕ, false, not, Bool, length, get_or, ap, arith, rules, List}
use Rattle.std.specs.List.{suffix_len}
use Rattle.std.proofs.lemmas.List.Sums.{suffix_len_is}
use Rattle.go_module.specs.Modules.PathParts.{is_slash}
use Rattle.go_mod.proofs.path_parts.last_start.Goals as goal

abbrev other : ℕ → Bool
other byte = not (is_slash byte)

-- the last run without a slash starts there
starts : (path : List ℕ) (start : ℕ) → start ≤ length path →
    ((k : ℕ) → start ≤ k → k < length path → is_slash (get_or path k 0) ≡ false) →
    (0 < start → other (get_or path (start - 1) 0) ≡ false) →
    start ≡ length path - suffix_len (λ byte. not (is_slash byte)) path
starts path start within none stops =
    let run = suffix_len_is (λ byte. not (is_slash byte)) path start 0 within (λ k lo hi. ap not (none k lo hi)) stops in
    omega arith

pub returns-else-path-start-ne47-clause-start : goal.returns-else-path-start-ne47-clause-start
returns-else-path-start-ne47-clause-start c =
    starts c.args.path.now c.loop-start.start c.loop-start.invariant.within c.loop-start.invariant.none
    (λ past. search rules)

pub returns-after-loop-start-clause-start : goal.returns-after-loop-start-clause-start
returns-after-loop-start-clause-start c =
    starts c.args.path.now c.loop-start.start c.loop-start.invariant.within c.loop-start.invariant.none
    (λ past. absurd (omega arith))
