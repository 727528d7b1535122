-- The file in which a spec of a package stands, with its imports, where the package breaks no rule on names.
use Rattle.std.proofs.Common.{◌≡◌, ℕ, suc, ◌+◌, Bool, Some, List, [], ◌∷◌, ◌⊎◌, inl, inr, length, map, Contains, refl, subst, arith}
use Rattle.std.specs.Prelude.{drop, slice_get, take}
use Rattle.std.specs.List.{flat_map}
use Rattle.std.proofs.lemmas.List.Elements.{Contains-append_cases, Contains-append_left, Contains-append_right}
use Rattle.go_tree.specs.declared.node_kind.NodeKind.TheVariants.{AliasSpec, ConstDecl, ConstGroup, TypeDecl, TypeGroup, TypeSpec, VarDecl, VarGroup}
use Rattle.go_tree.specs.Tree.{Tree, branch, list_of, parts_of}
use Rattle.go_module.specs.declared.block.Occurrence.{Occurrence}
use Rattle.go_module.specs.declared.block.Region.{Region}
use Rattle.go_module.specs.declared.object.ObjKind.{ObjKind}
use Rattle.go_module.specs.declared.object.ObjKind.TheVariants.{Alias, Defined}
use Rattle.go_module.specs.Modules.Heads.{import_specs}
use Rattle.go_module.specs.Modules.Module.{FileData}
use Rattle.go_module.specs.Names.Declarations.{Spec, const_spec, specs_from, specs_in, specs_in_file, type_spec, type_spec_as, var_spec}
use Rattle.go_module.specs.Names.Imports.{Importing, PackageNames, imports_from, imports_in}
use Rattle.go_module.specs.Names.Occurrences.{occurrences_in_file}
use Rattle.go_module.specs.Names.Rules.BrokenNames.{broken_file, broken_files}
use Rattle.go_module.specs.Names.Tables.{occurrences_from}
use Rattle.go_module.proofs.MemberLemmas.{contains_head, contains_none, contains_tail}
use Rattle.go_model.proofs.FlatLemmas.{flat_cases, map_cases, only_is}
use Rattle.go_laws.proofs.ListLemmas.{left_is_empty, right_is_empty}

-- a spec of a node: of constants, of variables, of a type or of an alias
pub data IsSpecOf (file : ℕ) (node : Tree) : Spec → Type 0 where
  of_constants : IsSpecOf file node (const_spec file node)
  of_variables : IsSpecOf file node (var_spec file node)
  of_type : (kind : ObjKind) → IsSpecOf file node (type_spec_as kind file node (parts_of node))

-- it is one of these nodes
pub record HasNode (file : ℕ) (nodes : List Tree) (spec : Spec) : Type 0 where
  pub node : Tree
  pub among : Contains nodes node
  pub is : IsSpecOf file node spec

type_spec_is : (file : ℕ) (node : Tree) (spec : Spec) → Contains (type_spec file node) spec → IsSpecOf file node spec
type_spec_is file (branch id from to TypeSpec text parts) spec h =
    let node = branch id from to TypeSpec text parts in
    subst (IsSpecOf file node) (only_is (type_spec_as Defined file node parts) spec h) (of_type Defined)
type_spec_is file (branch id from to AliasSpec text parts) spec h =
    let node = branch id from to AliasSpec text parts in
    subst (IsSpecOf file node) (only_is (type_spec_as Alias file node parts) spec h) (of_type Alias)
type_spec_is file (branch id from to kind text parts) spec h = absurd (contains_none spec h)

spec_of_each : (file : ℕ) (make : Tree → Spec) → ((node : Tree) → IsSpecOf file node (make node)) → (nodes : List Tree) (spec : Spec) → Contains (map make nodes) spec → HasNode file nodes spec
spec_of_each file make each nodes spec h =
    let from = map_cases make nodes spec h in
    record { node = from.0; among = from.1; is = subst (IsSpecOf file from.0) from.2 (each from.0) }

type_of_each : (file : ℕ) (nodes : List Tree) (spec : Spec) → Contains (flat_map (type_spec file) nodes) spec → HasNode file nodes spec
type_of_each file nodes spec h =
    let from = flat_cases (type_spec file) nodes spec h in
    record { node = from.0; among = from.1; is = type_spec_is file from.0 spec from.2 }

-- the specs of a declaration are of its parts
pub spec_is : (file : ℕ) (declaration : Tree) (spec : Spec) → Contains (specs_in file declaration) spec → HasNode file (list_of (parts_of declaration)) spec
spec_is file (branch id from to ConstDecl text parts) spec h = spec_of_each file (const_spec file) (λ node. of_constants) (list_of parts) spec h
spec_is file (branch id from to ConstGroup text parts) spec h = spec_of_each file (const_spec file) (λ node. of_constants) (list_of parts) spec h
spec_is file (branch id from to VarDecl text parts) spec h = spec_of_each file (var_spec file) (λ node. of_variables) (list_of parts) spec h
spec_is file (branch id from to VarGroup text parts) spec h = spec_of_each file (var_spec file) (λ node. of_variables) (list_of parts) spec h
spec_is file (branch id from to TypeDecl text parts) spec h = type_of_each file (list_of parts) spec h
spec_is file (branch id from to TypeGroup text parts) spec h = type_of_each file (list_of parts) spec h
spec_is file (branch id from to kind text parts) spec h = absurd (contains_none spec h)

-- a spec has the place of its file
file_is : (file : ℕ) (node : Tree) (spec : Spec) → IsSpecOf file node spec → spec.file ≡ file
file_is file node spec of_constants = refl
file_is file node spec of_variables = refl
file_is file node spec (of_type kind) = refl

pub spec_file : (file : ℕ) (tree : Tree) (spec : Spec) → Contains (specs_in_file file tree) spec → spec.file ≡ file
spec_file file tree spec h =
    let from = flat_cases (specs_in file) (list_of (parts_of tree)) spec h in
    let node = spec_is file from.0 spec from.2 in
    file_is file node.node spec node.is

-- a spec of a package stands in one of its files
pub file_of_spec : (first : ℕ) (files : List FileData) (spec : Spec) → Contains (specs_from first files) spec → (number : ℕ) × (file : FileData) × Contains files file × Contains (specs_in_file number file.tree) spec
file_of_spec first [] spec h = absurd (contains_none spec h)
file_of_spec first (f ∷ files) spec h = by_cases (Contains-append_cases (specs_in_file first f.tree) (specs_from (first + 1) files) spec h) (file_of_spec (first + 1) files spec)
  where
    by_cases : Contains (specs_in_file first f.tree) spec ⊎ Contains (specs_from (first + 1) files) spec
        → (Contains (specs_from (first + 1) files) spec → (number : ℕ) × (file : FileData) × Contains files file × Contains (specs_in_file number file.tree) spec)
        → (number : ℕ) × (file : FileData) × Contains (f ∷ files) file × Contains (specs_in_file number file.tree) spec
    by_cases (inl here) later = (first, f, contains_head f files f refl, here)
    by_cases (inr there) later = let from = later there in (from.0, from.1, contains_tail f files from.1 from.2, from.3)

module _ (known : ℕ → PackageNames) (k : ℕ) (is_main : Bool) (regions block : List Region) where
  -- behind a first place its file, its imports, and what is not broken there
  pub record AtFile (first : ℕ) (files : List FileData) (packages : List ℕ) (spec : Spec) : Type 0 where
    pub place : ℕ
    pub number : ℕ
    pub numbered : number ≡ first + place
    pub file : FileData
    pub imports : List Importing
    pub found : slice_get (imports_from k first files packages) place ≡ Some imports
    pub listed : Contains (imports_from k first files packages) imports
    pub among : Contains (specs_in_file number file.tree) spec
    pub sound : broken_file known is_main regions block number file imports ≡ []
    pub occurs : (o : Occurrence) → Contains (occurrences_in_file number file.tree) o → Contains (occurrences_from first files) o

  pub at_file : (first : ℕ) (files : List FileData) (packages : List ℕ) (spec : Spec) → Contains (specs_from first files) spec → broken_files known is_main regions block first files (imports_from k first files packages) ≡ [] → AtFile first files packages spec
  at_file first [] packages spec h none = absurd (contains_none spec h)
  at_file first (f ∷ files) packages spec h none =
      by_cases (Contains-append_cases (specs_in_file first f.tree) (specs_from (first + 1) files) spec h)
      (λ there. at_file (first + 1) files (drop (length (import_specs f.tree)) packages) spec there (right_is_empty (broken_file known is_main regions block first f (imports_in k first (import_specs f.tree) (take (length (import_specs f.tree)) packages))) (broken_files known is_main regions block (first + 1) files (imports_from k (first + 1) files (drop (length (import_specs f.tree)) packages))) none))
    where
      by_cases : Contains (specs_in_file first f.tree) spec ⊎ Contains (specs_from (first + 1) files) spec → (Contains (specs_from (first + 1) files) spec → AtFile (first + 1) files (drop (length (import_specs f.tree)) packages) spec) → AtFile first (f ∷ files) packages spec
      by_cases (inl here) rest = record {
        place = 0;
        number = first;
        numbered = omega arith;
        file = f;
        imports = imports_in k first (import_specs f.tree) (take (length (import_specs f.tree)) packages);
        found = refl;
        listed = contains_head (imports_in k first (import_specs f.tree) (take (length (import_specs f.tree)) packages)) (imports_from k (first + 1) files (drop (length (import_specs f.tree)) packages)) (imports_in k first (import_specs f.tree) (take (length (import_specs f.tree)) packages)) refl;
        among = here;
        sound = left_is_empty (broken_file known is_main regions block first f (imports_in k first (import_specs f.tree) (take (length (import_specs f.tree)) packages))) (broken_files known is_main regions block (first + 1) files (imports_from k (first + 1) files (drop (length (import_specs f.tree)) packages))) none;
        occurs = λ o inside. Contains-append_left (occurrences_in_file first f.tree) (occurrences_from (first + 1) files) o inside;
      }
      by_cases (inr there) rest = let is = rest there in record {
        place = suc is.place;
        number = is.number;
        numbered = (let at = is.numbered in omega (arith, at));
        file = is.file;
        imports = is.imports;
        found = is.found;
        listed = contains_tail (imports_in k first (import_specs f.tree) (take (length (import_specs f.tree)) packages)) (imports_from k (first + 1) files (drop (length (import_specs f.tree)) packages)) is.imports is.listed;
        among = is.among;
        sound = is.sound;
        occurs = λ o inside. Contains-append_right (occurrences_in_file first f.tree) (occurrences_from (first + 1) files) o (is.occurs o inside);
      }
