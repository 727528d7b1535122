-- What type literals declare, by the parts of a node and of a type.
use Rattle.std.proofs.Common.{◌≡◌, ◌<◌, List, [], ◌∷◌, ◌++◌, length, map, refl, sym, ap, ◌∙◌, append_assoc, arith}
use Rattle.std.specs.List.{flat_map}
use Rattle.std.proofs.lemmas.List.{map-append}
use Rattle.go_tree.specs.Tree.{Tree, parts_of}
use Rattle.go_module.specs.NodeParts.{all_but_first, first_part}
use Rattle.go_term.specs.declared.term.FuncTerm.{FuncTerm}
use Rattle.go_term.specs.declared.term.ElemTerm.TheViews.{out-FuncTerm}
use Rattle.go_term.specs.declared.term.ElemTerm.TheFolds.{fold_out-FuncTerm}
use Rattle.go_term.specs.Types as types
use Rattle.go_term.specs.Types.{Parts, TypeData, signature_parts}
use Rattle.go_term.specs.View.{SignatureData, elem_step, field_step, func_step, signature_of, term_step, type_of, union_step}
use Rattle.go_report.specs.Members.{Member, each_by, list_members, signature_members}
use Rattle.go_report.specs.Report.{LineData}

-- the parts of a type as a list
pub listed : (ts : List TypeData) → types.list_of (types.parts_of ts) ≡ ts
listed [] = refl
listed (t ∷ ts) = ap (λ rest. t ∷ rest) (listed ts)

-- the parts of a function, by the terms of its parameters and results
pub parts_of_function : (f : FuncTerm) → signature_parts (map type_of (out-FuncTerm f).params.items) (map type_of (out-FuncTerm f).results.items) ≡ (signature_of f).parts
parts_of_function f = ap (λ (d : SignatureData). d.parts) (sym (fold_out-FuncTerm TypeData TypeData TypeData SignatureData TypeData elem_step term_step field_step func_step union_step f))

module _ (line : Member → LineData) where
  -- where no type is left
  pub none_left : {X : Type 0} (members : Tree → TypeData → List Member) (view : X → TypeData) (t : Tree) (ts : List Tree) (types : List X)
      → length types < 1 → map line (each_by members ts (map view types)) ≡ map line (each_by members (t ∷ ts) (map view types))
  none_left members view t [] [] none = refl
  none_left members view t (u ∷ us) [] none = refl
  none_left members view t ts (x ∷ xs) none = absurd (omega (arith, none))

  -- the lines of parameters, and behind them those of results
  pub both_lists : (signature first : Tree) (behind : List Tree) (params results : List TypeData) (old new : List LineData)
      → first ≡ first_part signature → behind ≡ all_but_first (parts_of signature) → new ≡ old ++ map line (list_members params first)
      → new ++ map line (flat_map (list_members results) behind) ≡ old ++ map line (signature_members signature (signature_parts params results))
  both_lists signature first behind params results old new is are pushed =
      let before = list_members params first in
      let after = flat_map (list_members results) behind in
      ap (λ ls. ls ++ map line after) pushed
      ∙ append_assoc old (map line before) (map line after)
      ∙ ap (λ ls. old ++ ls) (sym (map-append line before after))
      ∙ (λ i. old ++ map line (list_members (sym (listed params) i) (is i) ++ flat_map (list_members (sym (listed results) i)) (are i)))
