-- Broken rules.
-- Says where a rule is broken: at an offset of a file, which is known by its number. Within one package a file is
-- known by its place first: `with_number` of `Places` puts the number there.
use Rattle.std.specs.Prelude.{ℕ, Bool, if◌then◌else◌, List, [], ◌∷◌, map}
use Rattle.go_base.specs.declared.rule.Broken.{Broken}
use Rattle.go_base.specs.declared.rule.Rule.{Rule}

abbrev pub broken_at : ℕ → ℕ → Rule → Broken
broken_at file offset rule = record { pos = record { file = file; offset = offset }; rule = rule }

-- what is broken, if it is
abbrev pub told_if : Bool → Broken → List Broken
told_if holds broken = if holds then broken ∷ [] else []

-- the rule is broken at each of these offsets of the file
abbrev pub told : ℕ → Rule → List ℕ → List Broken
told file rule offsets = map (λ offset. broken_at file offset rule) offsets
