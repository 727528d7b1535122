-- In a module that is loaded, each import spec of a package stands beside the package that it names.
use Rattle.std.proofs.Common.{◌≡◌, ℕ, zero, suc, ◌+◌, ◌<◌, ◌==◌, Bool, true, false, not, ◌&&◌, cond, Option, Some, None, List, [], ◌∷◌, ◌++◌, ◌⊎◌, inl, inr, length, map, filter, position, nat_lt, get_or, refl, sym, ap, ◌∙◌, subst, zero-add, arith}
use Rattle.std.specs.Prelude.{if◌then◌else◌, slice_get, unwrap_or, is_none, is_some}
use Rattle.std.specs.List.{Contains, cons_option, filter_map, flat_map, position_or_len, range_with_len}
use Rattle.std.specs.Option.{option_map, option_map_or}
use Rattle.std.proofs.lemmas.Bool.{eq-eqb, eqb-true, or_parts}
use Rattle.std.proofs.lemmas.List.Elements.{All-contains, All-contains_itself, All-filter, Contains-append_cases as append_cases, filter_passes}
use Rattle.std.proofs.lemmas.List.Folds.{list_any_at}
use Rattle.std.proofs.lemmas.List.FromFn.{get_or-range_with_len, length-range_with_len}
use Rattle.std.proofs.lemmas.List.Quantifiers.{position-Some}
use Rattle.std.proofs.lemmas.Option.{slice_get-get_or, slice_get-map, slice_get_within, unwrap_or-slice_get}
use Rattle.std.proofs.lemmas.Slice.Eq.{bytes_eq-Decides}
use Rattle.go_base.specs.declared.rule.Broken.{Broken}
use Rattle.go_graph.specs.Graph.{further, is_marked, row_at}
use Rattle.go_graph.proofs.OrderLemmas.{closed}
use Rattle.go_tree.specs.Tree.{Tree}
use Rattle.go_module.specs.Broken.{broken_at, told_if}
use Rattle.go_module.specs.Modules.BrokenImports.{is_unnamed, is_special, missing_package, special_import, broken_import, broken_imports_at, broken_clauses, broken_package, broken_if_reached, broken_imports_in}
use Rattle.go_module.specs.Modules.Texts.{SourceText, as_text}
use Rattle.go_module.specs.Modules.Heads.{FileHead, ImportSpec, AreImports, IsImportOf, import_specs}
use Rattle.go_module.specs.Modules.Module.{FileData, PackageData, ModuleData, IsLoaded, AreHeads, files_from, in_order, package_at, places_in}
use Rattle.go_module.specs.Modules.Packages.{files_of, imports_at, imports_in, imports_of, named, visible}
use Rattle.go_module.specs.Modules.Paths.{same_text, has_path, homes, own_paths}
use Rattle.go_module.proofs.BrokenListLemmas.{none_found}
use Rattle.go_module.proofs.MemberLemmas.{cons_cases, contains_head, contains_tail, contains_none}
use Rattle.go_scope.specs.Laws.{NamesPackage, SideBySide}
use Rattle.go_scope.proofs.ExactLemmas.{IsPlaced, placed_at}
use Rattle.go_scope.proofs.HeldLemmas.{within_any}

-- what is put together of nothing is nothing
nil_parts : {X : Type 0} (xs ys : List X) → xs ++ ys ≡ [] → (xs ≡ []) × (ys ≡ [])
nil_parts [] ys e = (refl, e)
nil_parts (x ∷ xs) ys e = cc

each_nil : {X Y : Type 0} (f : X → List Y) (xs : List X) (x : X) → flat_map f xs ≡ [] → Contains xs x → f x ≡ []
each_nil f [] x e here = absurd (contains_none x here)
each_nil f (y ∷ xs) x e here = by_place (cons_cases y xs x here) (each_nil f xs x (nil_parts (f y) (flat_map f xs) e).1) where
  by_place : (y ≡ x) ⊎ Contains xs x → (Contains xs x → f x ≡ []) → f x ≡ []
  by_place (inl same) go_on = ap f (sym same) ∙ (nil_parts (f y) (flat_map f xs) e).0
  by_place (inr later) go_on = go_on later

-- nothing is left out where each gives something
all_kept : {X Y : Type 0} (f : X → Option Y) (xs : List X) → ((x : X) → Contains xs x → is_some (f x) ≡ true) → SideBySide (λ x y. f x ≡ Some y) xs (filter_map f xs)
all_kept f [] each = tt
all_kept {Y = Y} f (x ∷ xs) each = by_some (f x) refl (each x (contains_head x xs x refl)) (all_kept f xs (λ y here. each y (contains_tail x xs y here))) where
  by_some : (o : Option Y) → f x ≡ o → is_some o ≡ true → SideBySide (λ x y. f x ≡ Some y) xs (filter_map f xs) → SideBySide (λ x y. f x ≡ Some y) (x ∷ xs) (cons_option o (filter_map f xs))
  by_some None at some rest = cc
  by_some (Some y) at some rest = (at, rest)

-- one list beside another, and that beside a third
side_through : {X Y Z : Type 0} (R : X → Y → Type 0) (S : Y → Z → Type 0) (T : X → Z → Type 0) → ((x : X) (y : Y) (z : Z) → R x y → S y z → T x z) → (xs : List X) (ys : List Y) (zs : List Z) → SideBySide R xs ys → SideBySide S ys zs → SideBySide T xs zs
side_through R S T join [] [] [] r s = tt
side_through R S T join [] [] (z ∷ zs) r s = absurd s
side_through R S T join [] (y ∷ ys) zs r s = absurd r
side_through R S T join (x ∷ xs) [] zs r s = absurd r
side_through R S T join (x ∷ xs) (y ∷ ys) [] r s = absurd s
side_through R S T join (x ∷ xs) (y ∷ ys) (z ∷ zs) r s = (join x y z r.0 s.0, side_through R S T join xs ys zs r.1 s.1)

side_weaker : {X Y : Type 0} (R S : X → Y → Type 0) → ((x : X) (y : Y) → R x y → S x y) → (xs : List X) (ys : List Y) → SideBySide R xs ys → SideBySide S xs ys
side_weaker R S weaker [] [] r = tt
side_weaker R S weaker [] (y ∷ ys) r = absurd r
side_weaker R S weaker (x ∷ xs) [] r = absurd r
side_weaker R S weaker (x ∷ xs) (y ∷ ys) r = (weaker x y r.0, side_weaker R S weaker xs ys r.1)

side_append : {X Y : Type 0} (R : X → Y → Type 0) (xs more : List X) (ys others : List Y) → SideBySide R xs ys → SideBySide R more others → SideBySide R (xs ++ more) (ys ++ others)
side_append R [] more [] others r s = s
side_append R [] more (y ∷ ys) others r s = absurd r
side_append R (x ∷ xs) more [] others r s = absurd r
side_append R (x ∷ xs) more (y ∷ ys) others r s = (r.0, side_append R xs more ys others r.1 s)

-- a number of a list has a place in it

some_of : {X : Type 0} (b : Bool) (x : X) → is_some (cond b (Some x) None) ≡ b
some_of true x = refl
some_of false x = refl

has_place : (xs : List ℕ) (q : ℕ) → Contains xs q → is_some (position (λ p. p == q) xs) ≡ true
has_place xs q here =
    some_of (nat_lt (position_or_len (λ p. p == q) xs) (length xs)) (position_or_len (λ p. p == q) xs)
    ∙ within_any (λ p. p == q) xs
    ∙ list_any_at (λ p. p == q) xs here.0 q here.1 (eq-eqb (get_or xs here.0 q) q here.2)

-- what stands at a place that was found
found_at : (xs : List ℕ) (q i : ℕ) → position (λ p. p == q) xs ≡ Some i → slice_get xs i ≡ Some q
found_at xs q i e =
    let at = position-Some (λ p. p == q) xs i q e in
    slice_get-get_or xs i q at.0 ∙ ap Some (eqb-true (get_or xs i q) q at.1)

-- what passes a test is kept, and what is kept passes it
kept_by : {X : Type 0} (test : X → Bool) (xs : List X) (x : X) → Contains xs x → test x ≡ true → Contains (filter test xs) x
kept_by test [] x here passes = absurd (contains_none x here)
kept_by test (y ∷ xs) x here passes = by_place (cons_cases y xs x here) (test y) refl (kept_by test xs x) where
  by_place : (y ≡ x) ⊎ Contains xs x → (b : Bool) → test y ≡ b → (Contains xs x → test x ≡ true → Contains (filter test xs) x) → Contains (cond b (y ∷ filter test xs) (filter test xs)) x
  by_place (inl same) true at go_on = contains_head y (filter test xs) x same
  by_place (inl same) false at go_on = absurd (let wrong : false ≡ true = sym at ∙ ap test same ∙ passes in cc)
  by_place (inr later) true at go_on = contains_tail y (filter test xs) x (go_on later passes)
  by_place (inr later) false at go_on = go_on later passes

passes_kept : {X : Type 0} (test : X → Bool) (xs : List X) (x : X) → Contains (filter test xs) x → Contains xs x × (test x ≡ true)
passes_kept test xs x here = (
  All-contains (Contains xs) (filter test xs) x (All-filter test (Contains xs) xs (All-contains_itself xs)) here,
  All-contains (λ y. test y ≡ true) (filter test xs) x (filter_passes test xs) here,
)

-- the imports of a file beside its specs
beside : (specs : List Tree) (imports : List ImportSpec) → AreImports specs imports → SideBySide IsImportOf specs imports
beside [] [] are = tt
beside [] (i ∷ imports) are = absurd are
beside (s ∷ specs) [] are = absurd are
beside (s ∷ specs) (i ∷ imports) are = (are.0, beside specs imports are.1)

-- those of a head beside those of its file
head_specs : (number : ℕ) (texts : List SourceText) (trees : List Tree) (heads : List FileHead) → AreHeads texts trees heads → (j : ℕ) → SideBySide IsImportOf (option_map_or (λ (f : FileData). import_specs f.tree) (slice_get (files_from number texts trees) j) []) (imports_at heads j)
head_specs number [] [] [] are j = tt
head_specs number [] [] (h ∷ heads) are j = absurd are
head_specs number [] (t ∷ trees) [] are j = absurd are
head_specs number [] (t ∷ trees) (h ∷ heads) are j = absurd are
head_specs number (x ∷ texts) [] [] are j = absurd are
head_specs number (x ∷ texts) [] (h ∷ heads) are j = absurd are
head_specs number (x ∷ texts) (t ∷ trees) [] are j = absurd are
head_specs number (x ∷ texts) (t ∷ trees) (h ∷ heads) are zero = beside (import_specs t) h.imports are.0.imports_are
head_specs number (x ∷ texts) (t ∷ trees) (h ∷ heads) are (suc j) = head_specs (number + 1) texts trees heads are.1 j

-- so it is for the files of a package
module _ (texts : List SourceText) (trees : List Tree) (heads : List FileHead) (are : AreHeads texts trees heads) where
  one_file : (found : Option FileData) (js : List ℕ) (imports others : List ImportSpec) → SideBySide IsImportOf (option_map_or (λ (f : FileData). import_specs f.tree) found []) imports → SideBySide IsImportOf (flat_map (λ (f : FileData). import_specs f.tree) (filter_map (slice_get (files_from 0 texts trees)) js)) others → SideBySide IsImportOf (flat_map (λ (f : FileData). import_specs f.tree) (cons_option found (filter_map (slice_get (files_from 0 texts trees)) js))) (imports ++ others)
  one_file None js [] others here rest = rest
  one_file None js (i ∷ imports) others here rest = absurd here
  one_file (Some f) js imports others here rest = side_append IsImportOf (import_specs f.tree) (flat_map (λ (g : FileData). import_specs g.tree) (filter_map (slice_get (files_from 0 texts trees)) js)) imports others here rest

  specs_beside : (js : List ℕ) → SideBySide IsImportOf (flat_map (λ (f : FileData). import_specs f.tree) (filter_map (slice_get (files_from 0 texts trees)) js)) (imports_in heads js)
  specs_beside [] = tt
  specs_beside (j ∷ js) = one_file (slice_get (files_from 0 texts trees) j) js (imports_at heads j) (imports_in heads js) (head_specs 0 texts trees heads are j) (specs_beside js)

-- an import that breaks nothing names a package
told_nothing : (b : Bool) (x : Broken) → told_if b x ≡ [] → b ≡ false
told_nothing true x e = cc
told_nothing false x e = refl

is_named : {X : Type 0} (o : Option X) → is_none o ≡ false → is_some o ≡ true
is_named None e = cc
is_named (Some x) e = refl

import_named : (paths : List (List ℕ)) (stubs : List Bool) (from_stub : Bool) (file : ℕ) (spec : ImportSpec) → broken_import paths stubs from_stub file spec ≡ [] → is_some (named paths stubs from_stub spec.path) ≡ true
import_named paths stubs from_stub file spec none =
    let first = nil_parts (told_if (is_unnamed paths stubs from_stub spec.path) (broken_at file spec.at missing_package)) (told_if (is_special spec.path) (broken_at file spec.at special_import)) none in
    let kept = told_nothing (is_unnamed paths stubs from_stub spec.path) (broken_at file spec.at missing_package) first.0 in
    is_named (named paths stubs from_stub spec.path) (or_parts (length spec.path == 0) (is_none (named paths stubs from_stub spec.path)) kept).1

-- which package is seen
visible_is : (stubs : List Bool) (from_stub : Bool) (o : Option ℕ) (q : ℕ) → visible stubs from_stub o ≡ Some q → o ≡ Some q
visible_is stubs from_stub None q e = cc
visible_is stubs from_stub (Some k) q e = by_test (from_stub && not (is_marked stubs k)) e where
  by_test : (b : Bool) → (if b then None else Some k) ≡ Some q → Some k ≡ Some q
  by_test true e2 = cc
  by_test false e2 = e2

same_is : (a b : List ℕ) → same_text a b ≡ true → a ≡ b
same_is a b e = (bytes_eq-Decides a b).0 e

-- the imports of files that break nothing
in_flat : {X Y : Type 0} (f : X → List Y) (xs : List X) (y : Y) → Contains (flat_map f xs) y → (x : X) × Contains xs x × Contains (f x) y
in_flat f [] y here = absurd (contains_none y here)
in_flat {X = X} f (x ∷ xs) y here = by_place (append_cases (f x) (flat_map f xs) y here) (in_flat f xs y) where
  by_place : Contains (f x) y ⊎ Contains (flat_map f xs) y → (Contains (flat_map f xs) y → (z : X) × Contains xs z × Contains (f z) y) → (z : X) × Contains (x ∷ xs) z × Contains (f z) y
  by_place (inl first) go_on = (x, contains_head x xs x refl, first)
  by_place (inr later) go_on = let rest = go_on later in (rest.0, contains_tail x xs rest.0 rest.1, rest.2)

all_named_whole : (paths : List (List ℕ)) (stubs : List Bool) (heads : List FileHead) (from_stub : Bool) (files : List ℕ) → flat_map (broken_imports_at paths stubs heads from_stub) files ≡ [] → SideBySide (λ (i : ImportSpec) (q : ℕ). named paths stubs from_stub i.path ≡ Some q) (imports_in heads files) (imports_of paths stubs heads from_stub files)
all_named_whole paths stubs heads from_stub files none =
    all_kept (λ (spec : ImportSpec). named paths stubs from_stub spec.path) (imports_in heads files) (λ spec here.
    let at = in_flat (imports_at heads) files spec here in
    let file = each_nil (broken_imports_at paths stubs heads from_stub) files at.0 none at.1 in
    import_named paths stubs from_stub at.0 spec (each_nil (broken_import paths stubs from_stub at.0) (imports_at heads at.0) spec file at.2))

-- a number of a range
in_range : (n k : ℕ) → k < n → Contains (range_with_len 0 n) k
in_range n k lt = (k, omega (arith, lt, length-range_with_len 0 n), get_or-range_with_len 0 n k k lt ∙ zero-add k)

module _ (m : ModuleData) (is : IsLoaded m) where
  nothing_broken : broken_imports_in is.heads is.table ≡ []
  nothing_broken = (nil_parts (broken_imports_in is.heads is.table) is.sound.cyclic (none_found (broken_imports_in is.heads is.table ++ is.sound.cyclic) is.sound.is_list)).0

  -- the import specs of a package of the table that is reached, beside what they name
  abbrev Names : ImportSpec → ℕ → Type 0
  Names i q = (from_stub : Bool) × (named is.table.paths is.table.stubs from_stub i.path ≡ Some q)

  row_whole : (place : ℕ) (o : Option (List ℕ)) → slice_get is.table.paths place ≡ o → is_marked is.table.reached place ≡ true → SideBySide Names (imports_in is.heads (row_at is.table.files place)) (row_at is.table.imports place)
  row_whole place None at reached =
      let t = is.table in
      let rows : row_at t.imports place ≡ [] = ap (λ rows. row_at rows place) is.parts.is_table.imports ∙ ap (λ r. unwrap_or r []) (slice_get-map _ t.paths place ∙ ap (option_map _) at) in
      let files : row_at t.files place ≡ [] = ap (λ rows. row_at rows place) is.parts.is_table.files ∙ ap (λ r. unwrap_or r []) (slice_get-map _ t.paths place ∙ ap (option_map _) at) in
      let none : SideBySide Names (imports_in is.heads []) [] = tt in
      subst (λ (js : List ℕ). SideBySide Names (imports_in is.heads js) (row_at t.imports place)) (sym files) (subst (SideBySide Names []) (sym rows) none)
  row_whole place (Some path) at reached =
      let t = is.table in
      let heads = is.heads in
      let hs = homes is.path (own_paths is.path heads) heads in
      let own_path = has_path (own_paths is.path heads) in
      let rows : row_at t.imports place ≡ imports_of t.paths t.stubs heads (not (own_path path)) (files_of hs path) = ap (λ rows. row_at rows place) is.parts.is_table.imports ∙ ap (λ r. unwrap_or r []) (slice_get-map (λ x. imports_of t.paths t.stubs heads (not (own_path x)) (files_of hs x)) t.paths place ∙ ap (option_map (λ x. imports_of t.paths t.stubs heads (not (own_path x)) (files_of hs x))) at) in
      let files : row_at t.files place ≡ files_of hs path = ap (λ rows. row_at rows place) is.parts.is_table.files ∙ ap (λ r. unwrap_or r []) (slice_get-map (files_of hs) t.paths place ∙ ap (option_map (files_of hs)) at) in
      let stub : is_marked t.stubs place ≡ not (own_path path) = ap (λ marks. is_marked marks place) is.parts.is_table.stubs ∙ ap (λ r. unwrap_or r false) (slice_get-map (λ x. not (own_path x)) t.paths place ∙ ap (option_map (λ x. not (own_path x))) at) in
      let within : place < length t.paths = slice_get_within t.paths place path at in
      let here = each_nil (broken_if_reached heads t) (range_with_len 0 (length t.paths)) place nothing_broken (in_range (length t.paths) place within) in
      let of_package : broken_package heads t.paths t.stubs (is_marked t.stubs place) (unwrap_or (slice_get t.files place) []) ≡ [] = sym (ap (λ b. if b then broken_package heads t.paths t.stubs (is_marked t.stubs place) (unwrap_or (slice_get t.files place) []) else []) reached) ∙ here in
      let imports = (nil_parts (broken_clauses heads (row_at t.files place)) (flat_map (broken_imports_at t.paths t.stubs heads (is_marked t.stubs place)) (row_at t.files place)) of_package).1 in
      let none : flat_map (broken_imports_at t.paths t.stubs heads (not (own_path path))) (files_of hs path) ≡ [] = (λ i. flat_map (broken_imports_at t.paths t.stubs heads (sym stub i)) (sym files i)) ∙ imports in
      let all = all_named_whole t.paths t.stubs heads (not (own_path path)) (files_of hs path) none in
      let told : SideBySide Names (imports_in heads (files_of hs path)) (imports_of t.paths t.stubs heads (not (own_path path)) (files_of hs path)) = side_weaker (λ (i : ImportSpec) (q : ℕ). named t.paths t.stubs (not (own_path path)) i.path ≡ Some q) Names (λ i q e. (not (own_path path), e)) (imports_in heads (files_of hs path)) (imports_of t.paths t.stubs heads (not (own_path path)) (files_of hs path)) all in
      subst (λ (js : List ℕ). SideBySide Names (imports_in heads js) (row_at t.imports place)) (sym files) (subst (SideBySide Names (imports_in heads (files_of hs path))) (sym rows) told)

  -- what an import names has its path
  path_named : (i : ImportSpec) (from_stub : Bool) (q : ℕ) → named is.table.paths is.table.stubs from_stub i.path ≡ Some q → row_at is.table.paths q ≡ i.path
  path_named i from_stub q e =
      let place = visible_is is.table.stubs from_stub (position (same_text i.path) is.table.paths) q e in
      let at = position-Some (same_text i.path) is.table.paths q [] place in
      unwrap_or-slice_get is.table.paths q [] ∙ sym (same_is i.path (get_or is.table.paths q []) at.1)

  join_names : (order : List ℕ) (files : List FileData) → m.packages ≡ map (package_at files is.heads is.table order) order → (i : ImportSpec) (q0 q : ℕ) → Names i q0 → position (λ x. x == q0) order ≡ Some q → (spec : Tree) → IsImportOf spec i → NamesPackage m spec q
  join_names order files packages i q0 q names at spec import =
      let there = found_at order q0 q at in
      let stands = ap (λ ps. slice_get ps q) packages ∙ slice_get-map (package_at files is.heads is.table order) order q ∙ ap (option_map (package_at files is.heads is.table order)) there in
      record { path = i.path; is_path = import.path; p = package_at files is.heads is.table order q0; at = stands; path_is = ap as_text (path_named i names.0 q0 names.1) }

  pub whole_imports : (k : ℕ) (p : PackageData) → slice_get m.packages k ≡ Some p → SideBySide (NamesPackage m) (flat_map (λ (f : FileData). import_specs f.tree) p.files) p.imports
  whole_imports k p at =
      let t = is.table in
      let files = files_from 0 is.texts is.trees in
      let order = in_order t is.is_module.order in
      let packages : m.packages ≡ map (package_at files is.heads t order) order = ap (λ (n : ModuleData). n.packages) is.is_module.module_is in
      let made : IsPlaced (package_at files is.heads t order) order p = placed_at (package_at files is.heads t order) order k p (sym (ap (λ ps. slice_get ps k) packages) ∙ at) in
      let kept = passes_kept (is_marked t.reached) is.is_module.order made.place made.stands in
      let each : (q : ℕ) → Contains (row_at t.imports made.place) q → is_some (position (λ x. x == q) order) ≡ true = λ q here.
      let marked : is_marked t.reached q ≡ true = (is.parts.is_table.reached q).1 (further made.place q ((is.parts.is_table.reached made.place).0 kept.1) here) in
      has_place order q (kept_by (is_marked t.reached) is.is_module.order q (closed t.imports is.is_module.order is.is_module.is_order.run made.place kept.0 q here) marked) in
      let specs = flat_map (λ (f : FileData). import_specs f.tree) (filter_map (slice_get files) (row_at t.files made.place)) in
      let row = row_at t.imports made.place in
      let of_specs = specs_beside is.texts is.trees is.heads is.parts.are_heads (row_at t.files made.place) in
      let of_imports = row_whole made.place (slice_get t.paths made.place) refl kept.1 in
      let of_places = all_kept (λ q. position (λ x. x == q) order) row each in
      let both = side_through IsImportOf Names (λ (s : Tree) (q : ℕ). (i : ImportSpec) × IsImportOf s i × Names i q) (λ s i q import names. (i, import, names)) specs (imports_in is.heads (row_at t.files made.place)) row of_specs of_imports in
      let all = side_through (λ (s : Tree) (q : ℕ). (i : ImportSpec) × IsImportOf s i × Names i q) (λ (q0 q : ℕ). position (λ x. x == q0) order ≡ Some q) (NamesPackage m) (λ s q0 q found here. join_names order files packages found.0 q0 q found.2 here s found.1) specs row (places_in order row) both of_places in
      subst (λ (d : PackageData). SideBySide (NamesPackage m) (flat_map (λ (f : FileData). import_specs f.tree) d.files) d.imports) made.is all
