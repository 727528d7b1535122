-- Type identity within bounds: each question as the code asks it, in the words of go_judge's definitions.
use Rattle.std.specs.Prelude.{ℕ, true, if◌then◌else◌, List, not}
use Rattle.go_term.specs.Types.{TypeData}
use Rattle.go_judge.specs.Types.TypeIdentity as identity
use Rattle.go_judge.specs.Types.TypeIdentity.{Test, and_ask, implied, is_declared}
use Rattle.go_judge.specs.Types.TypeSets.{MethodData, SetData, TermData}
use Rattle.go_judge.specs.Quests.{Done}
use Rattle.go_same.specs.declared.bounds.Bounds.{Bounds}

module _ (b : Bounds) where
  abbrev pub same : TypeData → TypeData → Test
  same = identity.same b.levels b.short b.left

  abbrev pub same_interfaces : TypeData × TypeData → Test
  same_interfaces = identity.same_interfaces (identity.same b.levels) b.left b.short

  abbrev pub same_sets : SetData → SetData → Test
  same_sets = identity.same_sets (identity.same b.levels) b.left b.short

  abbrev pub same_methods : MethodData × MethodData → Test
  same_methods = identity.same_methods (identity.same b.levels) b.left b.short

  abbrev pub same_methods_all : List (MethodData × MethodData) → Test
  same_methods_all = identity.same_methods_all (identity.same b.levels) b.left b.short

  abbrev pub terms_lie : SetData → SetData → Test
  terms_lie = identity.terms_lie (identity.same b.levels) b.left b.short

  -- each set's terms lie in the other
  abbrev pub same_terms : SetData → SetData → Test
  same_terms s t = and_ask (terms_lie s t) (terms_lie t s)

  abbrev pub lies_in : List (List TermData) → TermData → Test
  lies_in = identity.lies_in (identity.same b.levels) b.left b.short

  -- a term of the one set that lies in all its unions lies in all those of the other
  abbrev pub term_lies : SetData → SetData → TermData → Test
  term_lies s t a = implied (identity.lies_in (identity.same b.levels) b.left (not b.short) s.unions a) (lies_in t.unions a)

  abbrev pub lies_within : TermData → TermData → Test
  lies_within = identity.lies_within (identity.same b.levels) b.left b.short

  -- TWO TERMS, behind so many names

  abbrev pub behind : ℕ → TypeData → TypeData → Test
  behind = identity.behind (identity.same b.levels) b.left b.short

  abbrev pub has_underlying : ℕ → TypeData → TypeData → Test
  has_underlying = identity.has_underlying (identity.same b.levels) b.left b.short

  abbrev pub same_underlying : ℕ → TypeData → TypeData → Test
  same_underlying = identity.same_underlying (identity.same b.levels) b.left b.short

  -- of declared types the underlying types
  abbrev pub same_declared : ℕ → TypeData → TypeData → Test
  same_declared opened t u = if is_declared t then same_underlying opened t u else Done true

  abbrev pub same_term : ℕ → TypeData → TypeData → Test
  same_term = identity.same_term (identity.same b.levels) b.left b.short
