-- What a name denotes in a file: the one region of its name that lies inside all others which hold the
-- occurrence is that of the innermost block which declares the name.
use Rattle.std.proofs.Common.{◌≡◌, ℕ, zero, suc, ◌+◌, ◌<◌, Bool, true, false, cond, not, ◌&&◌, ◌||◌, Option, Some, None, List, [], ◌∷◌, ◌++◌, length, map, nat_lt, refl, sym, ap, subst, ◌∙◌, arith, length-append, append-nil}
use Rattle.std.specs.Prelude.{◌==◌, if◌then◌else◌, slice_get, filter, find, count_by, take, drop}
use Rattle.std.specs.List.{flat_map, list_any, zip}
use Rattle.std.specs.Option.{option_or}
use Rattle.std.proofs.lemmas.Bool.{ne_eqb, eq-eqb, lt-ltb}
use Rattle.std.proofs.lemmas.List.Elements.{filter-append}
use Rattle.std.proofs.lemmas.List.Folds.{find-append}
use Rattle.std.proofs.lemmas.List.Sums.{length-filter}
use Rattle.go_tree.specs.Tree.{Tree, Trees, no_trees, more_trees, parts_of}
use Rattle.go_module.specs.declared.block.Block.{Block}
use Rattle.go_module.specs.declared.block.Block.TheVariants.{Universe, Package, File}
use Rattle.go_module.specs.declared.block.Occurrence.{Occurrence}
use Rattle.go_module.specs.declared.block.Region.{Region}
use Rattle.go_module.specs.Names.Universe.{Predeclared, predeclared, universe, universe_from}
use Rattle.go_module.specs.Modules.Heads.{import_specs}
use Rattle.go_module.specs.Modules.Module.{FileData, PackageData}
use Rattle.go_module.specs.Names.Blocks.{holds_file, lies_inside}
use Rattle.go_module.specs.Names.Declarations.{declarations_of, name_text}
use Rattle.go_module.specs.Names.Exported.{is_blank_identifier}
use Rattle.go_module.specs.Names.Imports.{PackageNames, Importing, file_block, imports_in, imports_from, imports_of, import_parts, import_regions, import_region, named_regions, dot_region, is_dot}
use Rattle.go_module.specs.Names.PackageBlock.{binds, declared_region, package_block}
use Rattle.go_module.specs.Names.Regions.{regions_of, has_name, holds, lies_inside_others, resolution, is_held}
use Rattle.go_scope.specs.Held.{innermost, is_declared, only_of}

-- regions of one block
abbrev OfBlock : Block → List Region → Type 0
OfBlock b [] = Unit {0}
OfBlock b (r ∷ rs) = (r.block ≡ b) × OfBlock b rs

of_both : (b : Block) (xs ys : List Region) → OfBlock b xs → OfBlock b ys → OfBlock b (xs ++ ys)
of_both b [] ys front back = back
of_both b (x ∷ xs) ys front back = (front.0, of_both b xs ys front.1 back)

of_map : {X : Type 0} (b : Block) (f : X → Region) → ((x : X) → (f x).block ≡ b) → (xs : List X) → OfBlock b (map f xs)
of_map b f each [] = tt
of_map b f each (x ∷ xs) = (each x, of_map b f each xs)

of_kept : (b : Block) (r : Region) (rs : List Region) (kept : Bool) → r.block ≡ b → OfBlock b rs → OfBlock b (cond kept (r ∷ rs) rs)
of_kept b r rs true here rest = (here, rest)
of_kept b r rs false here rest = rest

of_filter : (b : Block) (p : Region → Bool) (rs : List Region) → OfBlock b rs → OfBlock b (filter p rs)
of_filter b p [] own = tt
of_filter b p (r ∷ rs) own = of_kept b r (filter p rs) (p r) own.0 (of_filter b p rs own.1)

of_if : (b : Block) (t : Bool) (xs ys : List Region) → OfBlock b xs → OfBlock b ys → OfBlock b (if t then xs else ys)
of_if b true xs ys left right = left
of_if b false xs ys left right = right

-- the blocks of a package, each with its regions

universe_from_own : (i : ℕ) (names : List Predeclared) → OfBlock Universe (universe_from i names)
universe_from_own i [] = tt
universe_from_own i (name ∷ names) = (refl, universe_from_own (i + 1) names)

universe_own : OfBlock Universe universe
unfolding universe
universe_own = universe_from_own 0 predeclared

package_own : (k : ℕ) (p : PackageData) → OfBlock Package (package_block k p)
package_own k p = of_map Package (declared_region k) (λ d. refl) (filter binds (declarations_of p))

named_own : (known : PackageNames) (i : Importing) (name string : Tree) → OfBlock (File i.file) (named_regions known i name string)
named_own known i name string =
    of_if (File i.file) (is_dot name) (map (dot_region i string) known.exports) _
    (of_map (File i.file) (dot_region i string) (λ object. refl) known.exports)
    (of_if (File i.file) (is_blank_identifier (name_text name)) [] (import_region i (name_text name) name ∷ []) tt (refl, tt))

import_own : (known : PackageNames) (i : Importing) (parts : Trees) → OfBlock (File i.file) (import_parts known i parts)
import_own known i no_trees = tt
import_own known i (more_trees string no_trees) = (refl, tt)
import_own known i (more_trees name (more_trees string no_trees)) = named_own known i name string
import_own known i (more_trees a (more_trees b (more_trees c rest))) = tt

abbrev importing_at : ℕ → ℕ → Tree × ℕ → Importing
importing_at importer file pair = record { spec = pair.0; file = file; importer = importer; imported = pair.1 }

imports_own : (known : ℕ → PackageNames) (importer file : ℕ) (pairs : List (Tree × ℕ)) → OfBlock (File file) (file_block known (map (importing_at importer file) pairs))
imports_own known importer file [] = tt
imports_own known importer file (pair ∷ pairs) =
    of_both (File file) (import_regions known (importing_at importer file pair)) (file_block known (map (importing_at importer file) pairs))
    (import_own (known pair.1) (importing_at importer file pair) (parts_of pair.0))
    (imports_own known importer file pairs)

file_own : (known : ℕ → PackageNames) (importer file : ℕ) (specs : List Tree) (packages : List ℕ) → OfBlock (File file) (file_block known (imports_in importer file specs packages))
file_own known importer file specs packages = imports_own known importer file (zip specs packages)

-- the regions of a block that hold an occurrence

held_more : (a c : Bool) (r : Region) (xs ys : List Region) → c ≡ true → xs ≡ ys → cond (a && c) (r ∷ xs) xs ≡ cond a (r ∷ ys) ys
held_more true true r xs ys e rest = ap (λ zs. r ∷ zs) rest
held_more true false r xs ys e rest = cc
held_more false c r xs ys e rest = rest

held_in : (o : Occurrence) (b : Block) (rs : List Region) → holds_file b o.file ≡ true → OfBlock b rs → filter (holds o) rs ≡ filter (has_name o.name) rs
held_in o b [] e own = refl
held_in o b (r ∷ rs) e own =
    held_more (has_name o.name r) (holds_file r.block o.file) r (filter (holds o) rs) (filter (has_name o.name) rs)
    (ap (λ x. holds_file x o.file) own.0 ∙ e)
    (held_in o b rs e own.1)

not_held_more : (a c : Bool) (r : Region) (xs : List Region) → c ≡ false → xs ≡ [] → cond (a && c) (r ∷ xs) xs ≡ []
not_held_more true true r xs e rest = cc
not_held_more true false r xs e rest = rest
not_held_more false c r xs e rest = rest

not_held_in : (o : Occurrence) (b : Block) (rs : List Region) → holds_file b o.file ≡ false → OfBlock b rs → filter (holds o) rs ≡ []
not_held_in o b [] e own = refl
not_held_in o b (r ∷ rs) e own =
    not_held_more (has_name o.name r) (holds_file r.block o.file) r (filter (holds o) rs)
    (ap (λ x. holds_file x o.file) own.0 ∙ e)
    (not_held_in o b rs e own.1)

-- of the blocks of files that of the occurrence's file alone

none_behind : (known : ℕ → PackageNames) (o : Occurrence) (k n : ℕ) (files : List FileData) (packages : List ℕ) → o.file < n → filter (holds o) (flat_map (file_block known) (imports_from k n files packages)) ≡ []
none_behind known o k n [] packages lt = refl
none_behind known o k n (f ∷ files) packages lt =
    let own = file_block known (imports_in k n (import_specs f.tree) (take (length (import_specs f.tree)) packages)) in
    let rest = flat_map (file_block known) (imports_from k (n + 1) files (drop (length (import_specs f.tree)) packages)) in
    let other : (n == o.file) ≡ false = ne_eqb n o.file (λ same. omega arith) in
    filter-append (holds o) own rest
    ∙ ap (λ xs. xs ++ filter (holds o) rest) (not_held_in o (File n) own other (file_own known k n (import_specs f.tree) (take (length (import_specs f.tree)) packages)))
    ∙ none_behind known o k (n + 1) files (drop (length (import_specs f.tree)) packages) (omega arith)

-- the block of the file at a place, and what of all blocks of files holds an occurrence there
abbrev IsThere : (ℕ → PackageNames) → Occurrence → List (List Importing) → List Importing → Type 0
IsThere known o blocks imports = OfBlock (File o.file) (file_block known imports) × (filter (holds o) (flat_map (file_block known) blocks) ≡ filter (has_name o.name) (file_block known imports))

first_there : (known : ℕ → PackageNames) (o : Occurrence) (k n : ℕ) (f : FileData) (files : List FileData) (packages : List ℕ) → o.file ≡ n → IsThere known o (imports_from k n (f ∷ files) packages) (imports_in k n (import_specs f.tree) (take (length (import_specs f.tree)) packages))
first_there known o k n f files packages at =
    let own = file_block known (imports_in k n (import_specs f.tree) (take (length (import_specs f.tree)) packages)) in
    let rest = flat_map (file_block known) (imports_from k (n + 1) files (drop (length (import_specs f.tree)) packages)) in
    let block : OfBlock (File n) own = file_own known k n (import_specs f.tree) (take (length (import_specs f.tree)) packages) in
    let here : (n == o.file) ≡ true = eq-eqb n o.file (sym at) in (
      subst (λ m. OfBlock (File m) own) (sym at) block,
      filter-append (holds o) own rest
          ∙ ap (λ xs. filter (holds o) own ++ xs) (none_behind known o k (n + 1) files (drop (length (import_specs f.tree)) packages) (omega arith))
          ∙ append-nil (filter (holds o) own)
          ∙ held_in o (File n) own here block,
    )

later_there : (known : ℕ → PackageNames) (o : Occurrence) (k n : ℕ) (f : FileData) (files : List FileData) (packages : List ℕ) (imports : List Importing) → n < o.file → IsThere known o (imports_from k (n + 1) files (drop (length (import_specs f.tree)) packages)) imports → IsThere known o (imports_from k n (f ∷ files) packages) imports
later_there known o k n f files packages imports lt there =
    let own = file_block known (imports_in k n (import_specs f.tree) (take (length (import_specs f.tree)) packages)) in
    let rest = flat_map (file_block known) (imports_from k (n + 1) files (drop (length (import_specs f.tree)) packages)) in
    let other : (n == o.file) ≡ false = ne_eqb n o.file (λ same. omega arith) in (
      there.0,
      filter-append (holds o) own rest
          ∙ ap (λ xs. xs ++ filter (holds o) rest) (not_held_in o (File n) own other (file_own known k n (import_specs f.tree) (take (length (import_specs f.tree)) packages)))
          ∙ there.1,
    )

some_there : {X : Type 0} (P : X → Type 0) (x y : X) → P x → Some x ≡ Some y → P y
some_there P x y there e = let same : x ≡ y = cc in subst P same there

file_there : (known : ℕ → PackageNames) (o : Occurrence) (k n i : ℕ) (files : List FileData) (packages : List ℕ) (imports : List Importing) → o.file ≡ n + i → slice_get (imports_from k n files packages) i ≡ Some imports → IsThere known o (imports_from k n files packages) imports
file_there known o k n i [] packages imports at found = cc
file_there known o k n zero (f ∷ files) packages imports at found =
    some_there (IsThere known o (imports_from k n (f ∷ files) packages)) _ imports
    (first_there known o k n f files packages (omega arith))
    found
file_there known o k n (suc i) (f ∷ files) packages imports at found =
    later_there known o k n f files packages imports (omega arith)
    (file_there known o k (n + 1) i files (drop (length (import_specs f.tree)) packages) imports (omega arith) found)

-- all regions that hold an occurrence, block by block

all_held : (known : ℕ → PackageNames) (k : ℕ) (p : PackageData) (o : Occurrence) (imports : List Importing) → slice_get (imports_of k p) o.file ≡ Some imports → filter (holds o) (regions_of known k p) ≡ filter (has_name o.name) universe ++ (filter (has_name o.name) (package_block k p) ++ filter (has_name o.name) (file_block known imports))
all_held known k p o imports found =
    let block = package_block k p in
    let rest = flat_map (file_block known) (imports_of k p) in
    let there : IsThere known o (imports_of k p) imports = file_there known o k 0 o.file p.files p.imports imports (omega arith) found in
    filter-append (holds o) universe (block ++ rest)
    ∙ ap (λ xs. xs ++ filter (holds o) (block ++ rest)) (held_in o Universe universe refl universe_own)
    ∙ ap (λ xs. filter (has_name o.name) universe ++ xs) (filter-append (holds o) block rest
    ∙ ap (λ xs. xs ++ filter (holds o) rest) (held_in o Package block refl (package_own k p))
    ∙ ap (λ xs. filter (has_name o.name) block ++ xs) there.1)

-- of regions of the three blocks, that which lies inside all others

abbrev first : List Region → Option Region
first [] = None
first (x ∷ xs) = Some x

abbrev one : List Region → Option Region
one [] = None
one (x ∷ []) = Some x
one (x ∷ (y ∷ xs)) = None

abbrev some : List Region → Bool
some [] = false
some (x ∷ xs) = true

filter_of : (p : Block → Bool) (b : Block) (c : Bool) (rs : List Region) → p b ≡ c → OfBlock b rs → filter (λ r. p r.block) rs ≡ cond c rs []
filter_of p b true [] e own = refl
filter_of p b false [] e own = refl
filter_of p b true (r ∷ rs) e own = rw (ap p own.0 ∙ e) (ap (λ xs. r ∷ xs) (filter_of p b true rs e own.1))
filter_of p b false (r ∷ rs) e own = rw (ap p own.0 ∙ e) (filter_of p b false rs e own.1)

find_of : (p : Block → Bool) (b : Block) (c : Bool) (rs : List Region) → p b ≡ c → OfBlock b rs → find (λ r. p r.block) rs ≡ cond c (first rs) None
find_of p b true [] e own = refl
find_of p b false [] e own = refl
find_of p b true (r ∷ rs) e own = rw (ap p own.0 ∙ e) refl
find_of p b false (r ∷ rs) e own = rw (ap p own.0 ∙ e) (find_of p b false rs e own.1)

-- how many regions a block does not lie inside
count_outside : (b : Block) (i : ℕ) (s t v : Bool) (u p f : List Region) → OfBlock Universe u → OfBlock Package p → OfBlock (File i) f → not (lies_inside b Universe) ≡ s → not (lies_inside b Package) ≡ t → not (lies_inside b (File i)) ≡ v → count_by (λ other. not (lies_inside b other.block)) (u ++ (p ++ f)) ≡ length (cond s u []) + (length (cond t p []) + length (cond v f []))
count_outside b i s t v u p f in_u in_p in_f es et ev =
    let out = λ (c : Block). not (lies_inside b c) in
    sym (length-filter (λ other. out other.block) (u ++ (p ++ f)))
    ∙ ap length (filter-append (λ other. out other.block) u (p ++ f))
    ∙ length-append (filter (λ other. out other.block) u) (filter (λ other. out other.block) (p ++ f))
    ∙ ap (λ xs. length xs + length (filter (λ other. out other.block) (p ++ f))) (filter_of out Universe s u es in_u)
    ∙ ap (λ n. length (cond s u []) + n) (ap length (filter-append (λ other. out other.block) p f)
    ∙ length-append (filter (λ other. out other.block) p) (filter (λ other. out other.block) f)
    ∙ ap (λ xs. length xs + length (filter (λ other. out other.block) f)) (filter_of out Package t p et in_p)
    ∙ ap (λ xs. length (cond t p []) + length xs) (filter_of out (File i) v f ev in_f))

abbrev counts_one : List Region → Block → Bool
counts_one regions b = count_by (λ other. not (lies_inside b other.block)) regions == 1

find_innermost : (i : ℕ) (u p f : List Region) → OfBlock Universe u → OfBlock Package p → OfBlock (File i) f → find (lies_inside_others (u ++ (p ++ f))) (u ++ (p ++ f)) ≡ option_or (cond (length u + (length p + length f) == 1) (first u) None) (option_or (cond (0 + (length p + length f) == 1) (first p) None) (cond (0 + (0 + length f) == 1) (first f) None))
find_innermost i u p f in_u in_p in_f =
    let all = u ++ (p ++ f) in
    let test = λ (r : Region). counts_one all r.block in
    let of_u = find_of (counts_one all) Universe (length u + (length p + length f) == 1) u (ap (λ n. n == 1) (count_outside Universe i true true true u p f in_u in_p in_f refl refl refl)) in_u in
    let of_p = find_of (counts_one all) Package (0 + (length p + length f) == 1) p (ap (λ n. n == 1) (count_outside Package i false true true u p f in_u in_p in_f refl refl refl)) in_p in
    let of_f = find_of (counts_one all) (File i) (0 + (0 + length f) == 1) f (ap (λ n. n == 1) (count_outside (File i) i false false true u p f in_u in_p in_f refl refl refl)) in_f in
    find-append test u (p ++ f)
    ∙ ap (λ x. option_or x (find test (p ++ f))) of_u
    ∙ ap (option_or (cond (length u + (length p + length f) == 1) (first u) None)) (find-append test p f
    ∙ ap (λ x. option_or x (find test f)) of_p
    ∙ ap (option_or (cond (0 + (length p + length f) == 1) (first p) None)) of_f)

-- the block that declares the name and lies inside the others, and its one region
abbrev chosen : List Region → List Region → List Region → Option Region
chosen u p f = if some f then one f else if some p then one p else one u

tested : (s t v : Bool) (u p f : List Region) → (length u + (length p + length f) == 1) ≡ s → (0 + (length p + length f) == 1) ≡ t → (0 + (0 + length f) == 1) ≡ v → option_or (cond s (first u) None) (option_or (cond t (first p) None) (cond v (first f) None)) ≡ chosen u p f → option_or (cond (length u + (length p + length f) == 1) (first u) None) (option_or (cond (0 + (length p + length f) == 1) (first p) None) (cond (0 + (0 + length f) == 1) (first f) None)) ≡ chosen u p f
tested s t v u p f es et ev e = rw (es, et, ev) e

choose : (u p f : List Region) → option_or (cond (length u + (length p + length f) == 1) (first u) None) (option_or (cond (0 + (length p + length f) == 1) (first p) None) (cond (0 + (0 + length f) == 1) (first f) None)) ≡ chosen u p f
choose u p (x ∷ (y ∷ f)) =
    tested false false false u p (x ∷ (y ∷ f)) (ne_eqb _ 1 (λ e. omega arith)) (ne_eqb _ 1 (λ e. omega arith)) (ne_eqb _ 1 (λ e. omega arith)) refl
choose [] [] (x ∷ []) = refl
choose [] (y ∷ p) (x ∷ []) =
    tested false false true [] (y ∷ p) (x ∷ []) (ne_eqb _ 1 (λ e. omega arith)) (ne_eqb _ 1 (λ e. omega arith)) refl refl
choose (z ∷ u) [] (x ∷ []) =
    tested false true true (z ∷ u) [] (x ∷ []) (ne_eqb _ 1 (λ e. omega arith)) refl refl refl
choose (z ∷ u) (y ∷ p) (x ∷ []) =
    tested false false true (z ∷ u) (y ∷ p) (x ∷ []) (ne_eqb _ 1 (λ e. omega arith)) (ne_eqb _ 1 (λ e. omega arith)) refl refl
choose u (x ∷ (y ∷ p)) [] =
    tested false false false u (x ∷ (y ∷ p)) [] (ne_eqb _ 1 (λ e. omega arith)) (ne_eqb _ 1 (λ e. omega arith)) refl refl
choose [] (x ∷ []) [] = refl
choose (z ∷ u) (x ∷ []) [] =
    tested false true false (z ∷ u) (x ∷ []) [] (ne_eqb _ 1 (λ e. omega arith)) refl refl refl
choose [] [] [] = refl
choose (x ∷ []) [] [] = refl
choose (x ∷ (y ∷ u)) [] [] =
    tested false false false (x ∷ (y ∷ u)) [] [] (ne_eqb _ 1 (λ e. omega arith)) refl refl refl

-- the same by what the code asks of each block

first_found_by : (t : Bool) (x : Region) (found : Option Region) (xs : List Region) → found ≡ first xs → cond t (Some x) found ≡ first (cond t (x ∷ xs) xs)
first_found_by true x found xs e = refl
first_found_by false x found xs e = e

first_found : (p : Region → Bool) (xs : List Region) → find p xs ≡ first (filter p xs)
first_found p [] = refl
first_found p (x ∷ xs) = first_found_by (p x) x (find p xs) (filter p xs) (first_found p xs)

only_one : (xs : List Region) → (if nat_lt 1 (length xs) then None else first xs) ≡ one xs
only_one [] = refl
only_one (x ∷ []) = refl
only_one (x ∷ (y ∷ xs)) = let many : nat_lt 1 (length (x ∷ (y ∷ xs))) ≡ true = lt-ltb 1 _ (omega arith) in rw many refl

only_is : (regions : List Region) (name : List ℕ) → only_of regions name ≡ one (filter (has_name name) regions)
only_is regions name =
    ap (λ n. if nat_lt 1 n then None else find (has_name name) regions) (sym (length-filter (has_name name) regions))
    ∙ ap (λ x. if nat_lt 1 (length (filter (has_name name) regions)) then None else x) (first_found (has_name name) regions)
    ∙ only_one (filter (has_name name) regions)

any_by : (t : Bool) (x : Region) (b : Bool) (xs : List Region) → b ≡ some xs → (t || b) ≡ some (cond t (x ∷ xs) xs)
any_by true x b xs e = refl
any_by false x b xs e = e

any_is : (p : Region → Bool) (xs : List Region) → list_any p xs ≡ some (filter p xs)
any_is p [] = refl
any_is p (x ∷ xs) = any_by (p x) x (list_any p xs) (filter p xs) (any_is p xs)

innermost_chosen : (u p f : List Region) (name : List ℕ) → innermost u p f name ≡ chosen (filter (has_name name) u) (filter (has_name name) p) (filter (has_name name) f)
innermost_chosen u p f name = rw (any_is (has_name name) f, any_is (has_name name) p, only_is f name, only_is p name, only_is u name) refl

pub innermost_is : (known : ℕ → PackageNames) (k : ℕ) (p : PackageData) (o : Occurrence) (imports : List Importing) → slice_get (imports_of k p) o.file ≡ Some imports → innermost universe (package_block k p) (file_block known imports) o.name ≡ resolution (regions_of known k p) o
innermost_is known k p o imports found =
    let test = has_name o.name in
    let block = package_block k p in
    let own = file_block known imports in
    let there : IsThere known o (imports_of k p) imports = file_there known o k 0 o.file p.files p.imports imports (omega arith) found in
    innermost_chosen universe block own o.name
    ∙ sym (choose (filter test universe) (filter test block) (filter test own))
    ∙ sym (find_innermost o.file (filter test universe) (filter test block) (filter test own)
    (of_filter Universe test universe universe_own)
    (of_filter Package test block (package_own k p))
    (of_filter (File o.file) test own there.0))
    ∙ ap (λ regions. find (lies_inside_others regions) regions) (sym (all_held known k p o imports found))

some_both : (xs ys : List Region) → some (xs ++ ys) ≡ (some xs || some ys)
some_both [] ys = refl
some_both (x ∷ xs) ys = refl

turned : (a b c : Bool) → (c || (b || a)) ≡ (a || (b || c))
turned true true true = refl
turned true true false = refl
turned true false true = refl
turned true false false = refl
turned false true true = refl
turned false true false = refl
turned false false true = refl
turned false false false = refl

pub declared_is : (known : ℕ → PackageNames) (k : ℕ) (p : PackageData) (o : Occurrence) (imports : List Importing) → slice_get (imports_of k p) o.file ≡ Some imports → is_declared universe (package_block k p) (file_block known imports) o.name ≡ is_held (regions_of known k p) o
declared_is known k p o imports found =
    let test = has_name o.name in
    let block = package_block k p in
    let own = file_block known imports in
    let u = filter test universe in
    let b = filter test block in
    let f = filter test own in
    rw (any_is test own, any_is test block, any_is test universe) (turned (some u) (some b) (some f))
    ∙ sym (ap (λ x. some u || x) (some_both b f))
    ∙ sym (some_both u (b ++ f))
    ∙ ap some (sym (all_held known k p o imports found))
    ∙ sym (any_is (holds o) (regions_of known k p))
