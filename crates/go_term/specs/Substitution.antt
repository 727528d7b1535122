-- Instantiations (Go specification).
-- Decides what a type becomes with arguments in the place of type parameters: "each type argument is substituted for
-- its corresponding type parameter", all at once, so that nothing is substituted in an argument. A parameter is known
-- by its declaration and its place there.
use Rattle.std.specs.Prelude.{ℕ, ◌==◌, ◌&&◌, Bool, Option, List, option_and_then, position, slice_get, unwrap_or}
use Rattle.go_base.specs.declared.ids.ObjId.{ObjId}
use Rattle.go_term.specs.Types.{Head, param, TypeData, Parts, made, no_parts, more_parts}

abbrev pub is_param : ObjId → ℕ → ObjId × ℕ → Bool
is_param d i p = (p.0.0 == d.0) && (p.1 == i)

-- the argument for a parameter: that at the parameter's place among these
abbrev pub argument_for : List (ObjId × ℕ) → List TypeData → ObjId → ℕ → Option TypeData
argument_for from to d i = option_and_then (slice_get to) (position (is_param d i) from)

-- what stands where t stood, whose head is this
abbrev pub put_at : List (ObjId × ℕ) → List TypeData → Head → TypeData → TypeData
put_at from to (param d i) t = unwrap_or (argument_for from to d i) t
put_at from to head t = t

abbrev mutual
  pub subst : List (ObjId × ℕ) → List TypeData → TypeData → TypeData
  subst from to (made head parts) = put_at from to head (made head (subst_all from to parts))

  pub subst_all : List (ObjId × ℕ) → List TypeData → Parts → Parts
  subst_all from to no_parts = no_parts
  subst_all from to (more_parts t ts) = more_parts (subst from to t) (subst_all from to ts)
