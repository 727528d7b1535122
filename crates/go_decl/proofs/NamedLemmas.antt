-- Where the declaration stands that a number names.
use Rattle.std.proofs.Common.{◌≡◌, ℕ, zero, suc, Option, Some, List, [], ◌∷◌, ◌⊎◌, Contains, inl, inr, ap, sym, ◌∙◌, subst}
use Rattle.std.specs.Prelude.{slice_get}
use Rattle.std.specs.List.{flat_map}
use Rattle.std.specs.Option.{option_map}
use Rattle.go_tree.specs.Tree.{Tree}
use Rattle.go_module.specs.Modules.Module.{ModuleData, PackageData}
use Rattle.go_module.specs.Names.Declarations.{declared_in, specs_of}
use Rattle.go_operands.specs.Operands.{expressions_in_parts}
use Rattle.go_module.proofs.MemberLemmas.{cons_cases, contains_none}
use Rattle.go_model.specs.Outcomes.Walked.{AreNumbered, NodesAreNumbered, nodes_of}
use Rattle.go_model.proofs.FlatLemmas.{flat_cases, flat_contains, map_cases}
use Rattle.go_expr.specs.Read.{nodes_under}
use Rattle.go_decl.specs.declared.parts.FoundPart.{FoundPart}
use Rattle.go_decl.specs.Parts.{Part, is_numbered, part_named, part_of, part_view, parts_in, parts_of}
use Rattle.go_decl.proofs.FindLemmas.{find_contains}
use Rattle.go_decl.proofs.ReadLemmas.{declared_within}

contained_at : {X : Type 0} (xs : List X) (x : X) → Contains xs x → (k : ℕ) × (slice_get xs k ≡ Some x)
contained_at [] x h = absurd (contains_none x h)
contained_at (y ∷ ys) x h = by_cases (cons_cases y ys x h) (contained_at ys x)
  where
    by_cases : (y ≡ x) ⊎ Contains ys x → (Contains ys x → (k : ℕ) × (slice_get ys k ≡ Some x)) → (k : ℕ) × (slice_get (y ∷ ys) k ≡ Some x)
    by_cases (inl here) later = (zero, ap Some here)
    by_cases (inr there) later = let found = later there in (suc found.0, found.1)

-- it is one of its spec, and no two of the nodes under it have one number
pub record IsDeclared (part : Part) : Type 0 where
  pub declared : Contains (declared_in part.spec) part.declaration
  pub numbered : AreNumbered (nodes_under part.declaration)

named_is_declared : (m : ModuleData) (d : ℕ) (part : Part) → NodesAreNumbered m → part_named m d ≡ Some part → IsDeclared part
named_is_declared m d part numbered e =
    let own = flat_cases parts_of m.packages part (find_contains (is_numbered d) (flat_map parts_of m.packages) part e) in
    let p : PackageData = own.0 in
    let spec = flat_cases (parts_in p) (specs_of p) part own.2 in
    let declaration = map_cases (part_of p spec.0) (declared_in spec.0) part spec.2 in
    let at = contained_at m.packages p own.1 in
    let within : (t : Tree) → Contains (nodes_under declaration.0) t → Contains (nodes_of p) t =
    λ t h. flat_contains expressions_in_parts (specs_of p) spec.0 t spec.1 (declared_within spec.0 declaration.0 declaration.1 t h) in
    let there : IsDeclared (part_of p spec.0 declaration.0) = record {
      declared = declaration.1;
      numbered = λ s t in_s in_t same. numbered at.0 p at.1 s t (within s in_s) (within t in_t) same;
    } in
    subst IsDeclared declaration.2 there

-- where the program found it
pub named_is_found : (m : ModuleData) (d : ℕ) (found : Option FoundPart) (part : FoundPart) → option_map part_view found ≡ part_named m d → found ≡ Some part → part_named m d ≡ Some (part_view part)
named_is_found m d found part are is = sym are ∙ ap (option_map part_view) is

pub found_is_declared : (m : ModuleData) (d : ℕ) (found : Option FoundPart) (part : FoundPart) → NodesAreNumbered m → option_map part_view found ≡ part_named m d → found ≡ Some part → IsDeclared (part_view part)
found_is_declared m d found part numbered are is = named_is_declared m d (part_view part) numbered (named_is_found m d found part are is)
