-- The final types in an expression are read off the outcomes of the nodes in it alone.
use Rattle.std.proofs.Common.{◌≡◌, Option, None, List, [], ◌∷◌, ◌++◌, Contains, map, refl, sym, ap, ◌∙◌, subst}
use Rattle.std.specs.Prelude.{is_none}
use Rattle.std.specs.List.{flat_map}
use Rattle.go_tree.specs.Tree.{Tree}
use Rattle.go_term.specs.Types.{TypeData}
use Rattle.go_module.specs.Names.Declarations.{Spec}
use Rattle.go_module.proofs.MemberLemmas.{contains_head, contains_tail}
use Rattle.go_operands.specs.Operands.{expressions_in, expressions_in_parts, folded, operands_of}
use Rattle.go_operands.proofs.OperandLemmas.{by_operands, expressions_in-operands, folded-operands}
use Rattle.go_judge.specs.Headers.{Headers}
use Rattle.go_judge.specs.Judged.{OutcomeData}
use Rattle.go_judge.specs.Records.{RecData}
use Rattle.go_model.specs.Outcomes.Readings.{record_in}
use Rattle.go_model.proofs.FlatLemmas.{flat_contains, flat_map-same, map-same}
use Rattle.go_report.specs.Finals.Nodes.{Finals, Typed, finals_at, finals_by, finals_in_spec, typed_by}
use Rattle.go_report.specs.PackageLines.{finals_in, written}

module _ (headers : Headers) (f g : Tree → OutcomeData RecData) where
  abbrev Agree : Tree → Type 0
  Agree t = (u : Tree) → Contains (expressions_in t) u → f u ≡ g u

  abbrev typed : (Tree → OutcomeData RecData) → Tree → Typed
  typed outcome t = (folded (typed_by headers outcome) t).own

  itself_in : (t : Tree) → Contains (expressions_in t) t
  itself_in t = subst (λ nodes. Contains nodes t) (sym (expressions_in-operands t)) (contains_head t (flat_map expressions_in (operands_of t)) t refl)

  operand_in : (t u v : Tree) → Contains (operands_of t) u → Contains (expressions_in u) v → Contains (expressions_in t) v
  operand_in t u v h i =
      subst (λ nodes. Contains nodes v) (sym (expressions_in-operands t))
      (contains_tail t (flat_map expressions_in (operands_of t)) v (flat_contains expressions_in (operands_of t) u v h i))

  -- what comes to a node, by its outcome and what comes to its operands
  typed_here : (t : Tree) (operands others : List Typed) → f t ≡ g t → operands ≡ others → typed_by headers f t operands ≡ typed_by headers g t others
  typed_here t operands others same each = λ i. record { found = record_in (same i); finals = finals_at headers t (record_in (same i)) (each i) }

  typed_same : (t : Tree) → Agree t → typed f t ≡ typed g t
  typed_same = by_operands (λ t. Agree t → typed f t ≡ typed g t) step
    where
      step : (t : Tree) → ((u : Tree) → Contains (operands_of t) u → Agree u → typed f u ≡ typed g u) → Agree t → typed f t ≡ typed g t
      step t each agree =
          folded-operands (typed_by headers f) t
          ∙ typed_here t (map (typed f) (operands_of t)) (map (typed g) (operands_of t)) (agree t (itself_in t))
          (map-same (typed f) (typed g) (operands_of t) (λ u h. each u h (λ v i. agree v (operand_in t u v h i))))
          ∙ sym (folded-operands (typed_by headers g) t)

  spec_same : (spec : Spec) → ((u : Tree) → Contains (expressions_in_parts spec) u → f u ≡ g u) → finals_in_spec headers f spec ≡ finals_in_spec headers g spec
  spec_same spec agree =
      flat_map-same (finals_by headers f None) (finals_by headers g None) (spec.types ++ spec.values)
      (λ t h. ap (λ (it : Typed). it.finals None) (typed_same t (λ u i. agree u (flat_contains expressions_in (spec.types ++ spec.values) t u h i))))

  pub finals_same : (specs : List Spec) → ((u : Tree) → Contains (flat_map expressions_in_parts (written specs)) u → f u ≡ g u) → finals_in headers f specs ≡ finals_in headers g specs
  finals_same specs agree =
      flat_map-same (finals_in_spec headers f) (finals_in_spec headers g) (written specs)
      (λ spec h. spec_same spec (λ u i. agree u (flat_contains expressions_in_parts (written specs) spec u h i)))
