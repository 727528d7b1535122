-- A table of final types that is filled with a list, its last entry first: what it has and what of the list is left together
-- have, of a number, the first entry of the whole list.
use Rattle.std.proofs.Common.{◌≡◌, Bool, true, false, cond, Option, Some, None, List, [], ◌∷◌, ◌++◌, map, refl, sym, ap, ◌∙◌, arith}
use Rattle.std.specs.Prelude.{◌==◌, if◌then◌else◌}
use Rattle.std.specs.Map.{lookup}
use Rattle.std.specs.Option.{option_map, option_or}
use Rattle.std.proofs.lemmas.Bool.Decides.{nat_tests}
use Rattle.std.proofs.lemmas.List.{map-append}
use Rattle.indexmap.specs.IndexMap.{insert_entry}
use Rattle.go_tree.specs.declared.node.NodeId.{NodeId}
use Rattle.go_term.specs.Types.{TypeData}
use Rattle.go_term.specs.View.{type_of}
use Rattle.go_term.specs.declared.term.Term.{Term}
use Rattle.go_module.specs.Scopes.{same_node}
use Rattle.go_judge.proofs.EntryLemmas.{chosen, entry_behind_node}
use Rattle.go_final.specs.Ends.{final_as, finals_as}
use Rattle.go_report.specs.Finals.Nodes.{Finals}

-- one more entry at the end of a list
last_of : (b : Bool) (v : TypeData) (rest one : Option TypeData) → cond b (Some v) (option_or rest one) ≡ option_or (cond b (Some v) rest) one
last_of true v rest one = refl
last_of false v rest one = refl

with_last : (id : NodeId) (entries : Finals) (entry : NodeId × TypeData) → lookup (same_node id) (entries ++ entry ∷ []) ≡ option_or (lookup (same_node id) entries) (cond (same_node id entry.0) (Some entry.1) None)
with_last id [] entry = refl
with_last id (e ∷ es) entry =
    ap (λ (o : Option TypeData). cond (same_node id e.0) (Some e.1) o) (with_last id es entry)
    ∙ last_of (same_node id e.0) e.1 (lookup (same_node id) es) (cond (same_node id entry.0) (Some entry.1) None)

-- the last entry of what is left goes into the table
moved : (b c : Bool) (left : Option TypeData) (v : TypeData) (table : Option TypeData) → c ≡ b → option_or left (if b then Some v else table) ≡ option_or (option_or left (cond c (Some v) None)) table
moved true c None v table e = ap (λ x. option_or (cond x (Some v) None) table) (sym e)
moved false c None v table e = ap (λ x. option_or (cond x (Some v) None) table) (sym e)
moved b c (Some w) v table e = refl

pub one_moved : (id : NodeId) (entries : List (NodeId × Term)) (old left : List (NodeId × Term)) (number : NodeId) (ty : Term) (whole : Option TypeData) → old ≡ left ++ (number, ty) ∷ []
    → option_or (lookup (same_node id) (finals_as type_of old)) (option_map type_of (lookup (same_node id) entries)) ≡ whole
    → option_or (lookup (same_node id) (finals_as type_of left)) (option_map type_of (lookup (same_node id) (insert_entry same_node entries number ty))) ≡ whole
one_moved id entries old left number ty whole is so_far =
    let table = option_map type_of (lookup (same_node id) entries) in
    let rest = lookup (same_node id) (finals_as type_of left) in
    let same : same_node id number ≡ (number.0 == id.0) = grind (arith, nat_tests) in
    ap (option_or rest) (ap (option_map type_of) (entry_behind_node entries number ty id.0) ∙ chosen type_of (number.0 == id.0) ty (lookup (same_node id) entries))
    ∙ moved (number.0 == id.0) (same_node id number) rest (type_of ty) table same
    ∙ ap (λ (o : Option TypeData). option_or o table) (sym (with_last id (finals_as type_of left) (number, type_of ty)))
    ∙ ap (λ (entries : Finals). option_or (lookup (same_node id) entries) table) (sym (map-append (final_as type_of) left ((number, ty) ∷ [])))
    ∙ ap (λ (list : List (NodeId × Term)). option_or (lookup (same_node id) (finals_as type_of list)) table) (sym is)
    ∙ so_far
