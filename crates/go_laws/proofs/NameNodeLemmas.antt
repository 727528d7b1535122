-- The nodes that declare names, by whose numbers their objects are known, are nodes of the files of their package.
use Rattle.std.proofs.Common.{◌≡◌, ℕ, zero, suc, ◌+◌, Bool, true, false, List, [], ◌∷◌, ◌⊎◌, inl, inr, length, map, Contains, refl, sym, ap, ◌∙◌, subst}
use Rattle.std.specs.Prelude.{◌==◌, drop, if◌then◌else◌, take}
use Rattle.std.specs.List.{zip}
use Rattle.std.proofs.lemmas.List.Elements.{Contains-append_left, Contains-append_right}
use Rattle.go_tree.specs.declared.node_kind.NodeKind.TheVariants.{ImportDecl, ImportGroup}
use Rattle.go_tree.specs.Tree.{Tree, branch, id_of, list_of, more_trees, no_trees, parts_of}
use Rattle.go_module.specs.declared.declaration.Built.TheVariants.{Pair}
use Rattle.go_module.specs.declared.object.ObjKind.{ObjKind}
use Rattle.go_module.specs.declared.object.ObjKind.TheVariants.{Const, Var}
use Rattle.go_module.specs.Modules.Heads.{import_specs, specs_in as imports_in_tree}
use Rattle.go_module.specs.Modules.Module.{FileData, PackageData}
use Rattle.go_module.specs.Names.Declarations.{Declaration, Spec, by_itself, by_values, declarations_of, declared_by_kind, declared_in, pairs, specs_in, specs_of, with_list}
use Rattle.go_module.specs.Names.Imports.{Importing, imports_from, imports_in}
use Rattle.go_module.specs.NodeParts.{first_part}
use Rattle.go_module.proofs.MemberLemmas.{cons_cases, contains_head, contains_none, contains_tail}
use Rattle.go_model.proofs.FlatLemmas.{flat_cases, flat_contains, map_cases, map_contains}
use Rattle.go_laws.specs.NodeNumbers.{nodes_by_end, nodes_in_files, numbers_in_files}
use Rattle.go_laws.proofs.Declaring.{AllGiveHeaders, IsMeaning, giving_means}
use Rattle.go_laws.proofs.FileLemmas.{IsSpecOf, file_of_spec, of_constants, of_type, of_variables, spec_is}
use Rattle.go_laws.proofs.NodeFileLemmas.{IsUnder, part_under, self_by_end}
use Rattle.go_laws.proofs.PickedLemmas.{picked_contains, picked_first}

-- DECLARATIONS

-- a declaration of a spec is of its kind, and has one of its names
record IsOfSpec (spec : Spec) (names : List Tree) (d : Declaration) : Type 0 where
  kind : d.kind ≡ spec.kind
  name : Contains names d.name

of_pairs : (spec : Spec) (names values : List Tree) (d : Declaration) → Contains (pairs spec names values) d → IsOfSpec spec names d
of_pairs spec [] values d h = absurd (contains_none d h)
of_pairs spec (name ∷ names) [] d h = absurd (contains_none d h)
of_pairs spec (name ∷ names) (value ∷ values) d h = by_cases (cons_cases _ (pairs spec names values) d h) (of_pairs spec names values d)
  where
    by_cases : (record { file = spec.file; kind = spec.kind; name = name; types = spec.types; values = value ∷ []; built = Pair } ≡ d) ⊎ Contains (pairs spec names values) d → (Contains (pairs spec names values) d → IsOfSpec spec names d) → IsOfSpec spec (name ∷ names) d
    by_cases (inl same) later = record {
      kind = ap (λ (x : Declaration). x.kind) (sym same);
      name = contains_head name names d.name (ap (λ (x : Declaration). x.name) same);
    }
    by_cases (inr there) later = let is = later there in record { kind = is.kind; name = contains_tail name names d.name is.name }

of_each : (spec : Spec) (make : Tree → Declaration) → ((name : Tree) → (make name).kind ≡ spec.kind) → ((name : Tree) → (make name).name ≡ name)
    → (d : Declaration) → Contains (map make spec.names) d → IsOfSpec spec spec.names d
of_each spec make kinds names d h =
    let from = map_cases make spec.names d h in
    record {
      kind = ap (λ (x : Declaration). x.kind) (sym from.2) ∙ kinds from.0;
      name = subst (Contains spec.names) (sym (names from.0) ∙ ap (λ (x : Declaration). x.name) from.2) from.1;
    }

of_values : (spec : Spec) (d : Declaration) → Contains (by_values spec) d → IsOfSpec spec spec.names d
of_values spec d h = by_sides (length spec.names == length spec.values) h
  where
    by_sides : (b : Bool) → Contains (if b then pairs spec spec.names spec.values else map (with_list spec) spec.names) d → IsOfSpec spec spec.names d
    by_sides true i = of_pairs spec spec.names spec.values d i
    by_sides false i = of_each spec (with_list spec) (λ name. refl) (λ name. refl) d i

of_kind : (kind : ObjKind) (types : List Tree) (spec : Spec) (d : Declaration) → Contains (declared_by_kind kind types spec) d → IsOfSpec spec spec.names d
of_kind Const types spec d h = of_values spec d h
of_kind Var [] spec d h = of_values spec d h
of_kind Var (type ∷ types) spec d h = of_each spec (by_itself spec) (λ name. refl) (λ name. refl) d h
of_kind kind types spec d h = of_each spec (by_itself spec) (λ name. refl) (λ name. refl) d h

of_spec : (spec : Spec) (d : Declaration) → Contains (declared_in spec) d → IsOfSpec spec spec.names d
of_spec spec d h = of_kind spec.kind spec.types spec d h

first_under : (top t : Tree) → IsUnder top t → IsUnder top (first_part t)
first_under top (branch id from to kind text no_trees) under = under
first_under top (branch id from to kind text (more_trees first parts)) under =
    part_under top (branch id from to kind text (more_trees first parts)) first under (contains_head first (list_of parts) first refl)

-- the names of a spec are under its node
names_under : (top node : Tree) → IsUnder top node → (file : ℕ) (spec : Spec) → IsSpecOf file node spec → (name : Tree) → Contains spec.names name → IsUnder top name
names_under top node under file spec of_constants name h = part_under top (first_part node) name (first_under top node under) h
names_under top node under file spec of_variables name h = part_under top (first_part node) name (first_under top node under) h
names_under top node under file spec (of_type kind) name h =
    part_under top node name under (picked_contains name (picked_first (λ (t : Tree). t) (list_of (parts_of node))) h)

-- the name of a declaration of a package is a node of the package
pub name_there : (p : PackageData) (d : Declaration) → Contains (declarations_of p) d → Contains (numbers_in_files p.files) (id_of d.name)
name_there p d h =
    let own = flat_cases declared_in (specs_of p) d h in
    let one = of_spec own.0 d own.2 in
    let file = file_of_spec 0 p.files own.0 own.1 in
    let top = file.1.tree in
    let declaration = flat_cases (specs_in file.0) (list_of (parts_of top)) own.0 file.3 in
    let node = spec_is file.0 declaration.0 own.0 declaration.2 in
    let under = part_under top declaration.0 node.node (part_under top top declaration.0 (λ s i. i) declaration.1) node.among in
    let inside = names_under top node.node under file.0 own.0 node.is d.name one.name d.name (self_by_end d.name) in
    map_contains id_of (nodes_in_files p.files) d.name (flat_contains (λ (f : FileData). nodes_by_end f.tree) p.files file.1 d.name file.2 inside)

-- and where all specs give headers, the declaration means something
pub declared_means : (p : PackageData) → AllGiveHeaders (specs_of p) → (d : Declaration) → Contains (declarations_of p) d → IsMeaning d.kind
declared_means p give d h =
    let own = flat_cases declared_in (specs_of p) d h in
    subst IsMeaning (sym (of_spec own.0 d own.2).kind) (giving_means own.0.kind own.0.types (give own.0 own.1))

-- IMPORTS

in_take : (n : ℕ) (xs : List ℕ) (x : ℕ) → Contains (take n xs) x → Contains xs x
in_take zero xs x h = absurd (contains_none x h)
in_take (suc n) [] x h = absurd (contains_none x h)
in_take (suc n) (y ∷ xs) x h = by_cases (cons_cases y (take n xs) x h) (in_take n xs x)
  where
    by_cases : (y ≡ x) ⊎ Contains (take n xs) x → (Contains (take n xs) x → Contains xs x) → Contains (y ∷ xs) x
    by_cases (inl here) later = contains_head y xs x here
    by_cases (inr there) later = contains_tail y xs x (later there)

in_drop : (n : ℕ) (xs : List ℕ) (x : ℕ) → Contains (drop n xs) x → Contains xs x
in_drop zero xs x h = h
in_drop (suc n) [] x h = absurd (contains_none x h)
in_drop (suc n) (y ∷ xs) x h = contains_tail y xs x (in_drop n xs x h)

in_zip : (specs : List Tree) (packages : List ℕ) (pair : Tree × ℕ) → Contains (zip specs packages) pair → Contains specs pair.0 × Contains packages pair.1
in_zip [] packages pair h = absurd (contains_none pair h)
in_zip (s ∷ specs) [] pair h = absurd (contains_none pair h)
in_zip (s ∷ specs) (q ∷ packages) pair h = by_cases (cons_cases (s, q) (zip specs packages) pair h) (in_zip specs packages pair)
  where
    by_cases : ((s, q) ≡ pair) ⊎ Contains (zip specs packages) pair → (Contains (zip specs packages) pair → Contains specs pair.0 × Contains packages pair.1)
        → Contains (s ∷ specs) pair.0 × Contains (q ∷ packages) pair.1
    by_cases (inl here) later = (contains_head s specs pair.0 (ap (λ (x : Tree × ℕ). x.0) here), contains_head q packages pair.1 (ap (λ (x : Tree × ℕ). x.1) here))
    by_cases (inr there) later = let is = later there in (contains_tail s specs pair.0 is.0, contains_tail q packages pair.1 is.1)

-- the import specs of a declaration are its parts
import_part : (declaration spec : Tree) → Contains (imports_in_tree declaration) spec → Contains (list_of (parts_of declaration)) spec
import_part (branch id from to ImportDecl text parts) spec h = h
import_part (branch id from to ImportGroup text parts) spec h = h
import_part (branch id from to kind text parts) spec h = absurd (contains_none spec h)

-- an import of a package's files: of a package that it imports, and the parts of its spec are nodes of these files
pub record IsOfFiles (files : List FileData) (packages : List ℕ) (i : Importing) : Type 0 where
  pub imported : Contains packages i.imported
  pub part : (t : Tree) → Contains (list_of (parts_of i.spec)) t → Contains (nodes_in_files files) t

of_file : (k number : ℕ) (f : FileData) (files : List FileData) (packages : List ℕ) (i : Importing) → Contains (imports_in k number (import_specs f.tree) (take (length (import_specs f.tree)) packages)) i → IsOfFiles (f ∷ files) packages i
of_file k number f files packages i h =
    let taken = take (length (import_specs f.tree)) packages in
    let made = map_cases (λ (pair : Tree × ℕ). record { spec = pair.0; file = number; importer = k; imported = pair.1 }) (zip (import_specs f.tree) taken) i h in
    let pair = in_zip (import_specs f.tree) taken made.0 made.1 in
    let among : Contains taken i.imported = subst (λ (x : Importing). Contains taken x.imported) made.2 pair.1 in
    let spec : Contains (import_specs f.tree) i.spec = subst (λ (x : Importing). Contains (import_specs f.tree) x.spec) made.2 pair.0 in
    let from = flat_cases imports_in_tree (list_of (parts_of f.tree)) i.spec spec in
    let under = part_under f.tree from.0 i.spec (part_under f.tree f.tree from.0 (λ s j. j) from.1) (import_part from.0 i.spec from.2) in
    record {
      imported = in_take (length (import_specs f.tree)) packages i.imported among;
      part = λ t part. Contains-append_left (nodes_by_end f.tree) (nodes_in_files files) t (part_under f.tree i.spec t under part t (self_by_end t));
    }

pub of_files : (k first : ℕ) (files : List FileData) (packages : List ℕ) (imports : List Importing) → Contains (imports_from k first files packages) imports → (i : Importing) → Contains imports i → IsOfFiles files packages i
of_files k first [] packages imports h i among = absurd (contains_none imports h)
of_files k first (f ∷ files) packages imports h i among =
    by_cases (cons_cases (imports_in k first (import_specs f.tree) (take (length (import_specs f.tree)) packages)) (imports_from k (first + 1) files (drop (length (import_specs f.tree)) packages)) imports h)
    (λ there. of_files k (first + 1) files (drop (length (import_specs f.tree)) packages) imports there i among)
  where
    by_cases : (imports_in k first (import_specs f.tree) (take (length (import_specs f.tree)) packages) ≡ imports) ⊎ Contains (imports_from k (first + 1) files (drop (length (import_specs f.tree)) packages)) imports
        → (Contains (imports_from k (first + 1) files (drop (length (import_specs f.tree)) packages)) imports → IsOfFiles files (drop (length (import_specs f.tree)) packages) i)
        → IsOfFiles (f ∷ files) packages i
    by_cases (inl here) later = of_file k first f files packages i (subst (λ (xs : List Importing). Contains xs i) (sym here) among)
    by_cases (inr there) later = let is = later there in record {
      imported = in_drop (length (import_specs f.tree)) packages i.imported is.imported;
      part = λ t part. Contains-append_right (nodes_by_end f.tree) (nodes_in_files files) t (is.part t part);
    }
