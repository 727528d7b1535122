-- Substitution of nothing.
use Rattle.std.proofs.Common.{◌≡◌, [], refl, ap, ◌∙◌}
use Rattle.go_term.specs.Types.{Head, param, TypeData, Parts, made, no_parts, more_parts}
use Rattle.go_term.specs.Substitution.{put_at, subst, subst_all}

put_none : (head : Head) (t : TypeData) → put_at [] [] head t ≡ t
put_none (param d i) t = refl
put_none head t = refl

mutual
  -- changes nothing
  pub subst_none : (t : TypeData) → subst [] [] t ≡ t
  subst_none (made head parts) = put_none head (made head (subst_all [] [] parts)) ∙ ap (made head) (subst_all_none parts)

  pub subst_all_none : (ts : Parts) → subst_all [] [] ts ≡ ts
  subst_all_none no_parts = refl
  subst_all_none (more_parts t ts) = let one = subst_none t in let rest = subst_all_none ts in cc
