-- In a module that is loaded, what the table of uses has at a node is what the identifier denotes.
use Rattle.std.proofs.Common.{◌≡◌, ℕ, zero, suc, ◌+◌, ◌<◌, ◌≤◌, Bool, true, false, cond, Option, Some, None, List, [], ◌∷◌, ◌++◌, ◌⊎◌, inl, inr, length, map, filter, refl, sym, ap, ◌∙◌, subst, arith, rules}
use Rattle.std.specs.Prelude.{slice_get, unwrap_or, IsSome}
use Rattle.std.specs.List.{Contains, cons_option, filter_map, flat_map, range_with_len}
use Rattle.std.specs.Map.{lookup}
use Rattle.std.specs.Option.{option_map, option_map_or, IfSome}
use Rattle.std.proofs.lemmas.List.{append_assoc}
use Rattle.std.proofs.lemmas.Option.{slice_get-map}
use Rattle.indexmap.specs.IndexMap.{insert_all}
use Rattle.go_tree.specs.declared.node.NodeId.{NodeId}
use Rattle.go_tree.specs.Tree.{Tree, branch, id_of, node_count}
use Rattle.go_module.specs.Copies.{with_copies}
use Rattle.go_module.specs.Files.{IsFileOf}
use Rattle.go_module.specs.Numbers.{numbered}
use Rattle.go_module.specs.declared.block.Occurrence.{Occurrence}
use Rattle.go_module.specs.declared.block.Region.{Region}
use Rattle.go_module.specs.declared.block.Selected.{Selected}
use Rattle.go_base.specs.declared.ids.ObjId.{ObjId}
use Rattle.go_module.specs.declared.object.Object.{Object}
use Rattle.go_module.specs.declared.scopes.Scopes.{Scopes}
use Rattle.go_module.specs.Modules.Texts.{SourceText}
use Rattle.go_module.specs.Modules.Module.{FileData, PackageData, ModuleData, IsLoaded, AreTrees, files_from, first_number, in_order, package_at}
use Rattle.go_graph.specs.Graph.{row_at}
use Rattle.go_module.specs.Modules.Paths.{homes, own_paths}
use Rattle.go_module.specs.Modules.Packages.{files_of, is_home}
use Rattle.go_module.specs.Scopes.{same_node}
use Rattle.go_module.specs.Names.Imports.{PackageNames, known_in}
use Rattle.go_module.specs.Names.PackageBlock.{object_id}
use Rattle.go_module.specs.Names.Rules.OccurrenceRules.{denoted_package}
use Rattle.go_module.specs.Names.Occurrences.{occurrences_in_file}
use Rattle.go_module.specs.Names.Regions.{resolution, regions_of}
use Rattle.go_module.specs.Names.Tables.{Member, member_of, members_at, HasTables, uses_at, uses_of, occurrences_from}
use Rattle.go_module.proofs.MemberLemmas.{cons_cases, contains_head, contains_none, contains_tail}
use Rattle.go_module.proofs.TableLemmas.{node_denotes, node_found}
use Rattle.go_scope.proofs.RisingLemmas.{Rises, IsBehind, last_of, rises_append, rises_lower, rises_higher, file_rises}

-- pairs whose numbers rise, from a number on
abbrev Ascends : ℕ → List (NodeId × ObjId) → Type 0
Ascends low [] = Unit {0}
Ascends low (x ∷ xs) = (low ≤ x.0.0) × Ascends (suc x.0.0) xs

ascends_lower : (low lower : ℕ) (xs : List (NodeId × ObjId)) → lower ≤ low → Ascends low xs → Ascends lower xs
ascends_lower low lower [] le a = tt
ascends_lower low lower (x ∷ xs) le a = (let first = a.0 in omega (arith, le, first), a.1)

-- what an occurrence adds before pairs that rise behind it
use_before : (o : Occurrence) (r : Option Region) (rest : List (NodeId × ObjId)) → Ascends (suc o.id.0) rest → Ascends o.id.0 (option_map_or {U = List (NodeId × ObjId)} (λ (x : Region). (o.id, object_id x.object) ∷ []) r [] ++ rest)
use_before o None rest a = ascends_lower (suc o.id.0) o.id.0 rest (omega arith) a
use_before o (Some x) rest a = (omega arith, a)

abbrev member_uses : List Member → List (NodeId × ObjId)
member_uses members = map (λ (m : Member). (m.id, object_id m.object)) members

member_before : (id : ℕ) (s : Selected) (d : Option Object) (rest : List (NodeId × ObjId)) → id < s.id.0 → Ascends (suc s.id.0) rest → Ascends (suc id) (member_uses (option_map_or {U = List Member} (λ (object : Object). record { id = s.id; object = object } ∷ []) d []) ++ rest)
member_before id s None rest behind a = ascends_lower (suc s.id.0) (suc id) rest (omega (arith, behind)) a
member_before id s (Some object) rest behind a = (omega (arith, behind), a)

members_before : (known : ℕ → PackageNames) (id : ℕ) (place : Option ℕ) (selected : Option Selected) (rest : List (NodeId × ObjId)) → IsBehind id selected → Ascends (suc (last_of id selected)) rest → Ascends (suc id) (member_uses (member_of known place selected) ++ rest)
members_before known id None None rest behind a = a
members_before known id None (Some s) rest behind a = ascends_lower (suc s.id.0) (suc id) rest (omega (arith, behind)) a
members_before known id (Some q) None rest behind a = a
members_before known id (Some q) (Some s) rest behind a = member_before id s ((known q).exported s.name) rest behind a

uses_ascend : (known : ℕ → PackageNames) (regions : List Region) (low high : ℕ) (xs : List Occurrence) → Rises low high xs → Ascends low (flat_map (uses_at known regions) xs)
uses_ascend known regions low high [] r = tt
uses_ascend known regions low high (o ∷ xs) r =
    let rest = flat_map (uses_at known regions) xs in
    let own = option_map_or {U = List (NodeId × ObjId)} (λ (x : Region). (o.id, object_id x.object) ∷ []) (resolution regions o) [] in
    let members = member_uses (members_at known regions o) in
    let later = uses_ascend known regions (suc (last_of o.id.0 o.selected)) high xs r.2 in
    let behind = members_before known o.id.0 (denoted_package regions o) o.selected rest r.1 later in
    let all = use_before o (resolution regions o) (members ++ rest) behind in
    let joined : (own ++ members) ++ rest ≡ own ++ (members ++ rest) = append_assoc own members rest in
    subst (Ascends low) (sym joined) (ascends_lower o.id.0 low (own ++ (members ++ rest)) r.0 all)

-- a number stands once
not_below : (low : ℕ) (xs : List (NodeId × ObjId)) (q : NodeId) (v : ObjId) → Ascends low xs → Contains xs (q, v) → low ≤ q.0
not_below low [] q v a here = absurd (contains_none (q, v) here)
not_below low (x ∷ xs) q v a here = by_place (cons_cases x xs (q, v) here) (not_below (suc x.0.0) xs q v a.1) where
  by_place : (x ≡ (q, v)) ⊎ Contains xs (q, v) → (Contains xs (q, v) → suc x.0.0 ≤ q.0) → low ≤ q.0
  by_place (inl e) go_on = let same : x.0.0 ≡ q.0 = ap (λ p. p.0.0) e in (let first = a.0 in omega (arith, same, first))
  by_place (inr later) go_on = let more = go_on later in (let first = a.0 in omega (arith, more, first))

one_use : (low : ℕ) (xs : List (NodeId × ObjId)) (q : NodeId) (v w : ObjId) → Ascends low xs → Contains xs (q, v) → Contains xs (q, w) → v ≡ w
one_use low [] q v w a left right = absurd (contains_none (q, v) left)
one_use low (x ∷ xs) q v w a left right = by_places (cons_cases x xs (q, v) left) (cons_cases x xs (q, w) right) (one_use (suc x.0.0) xs q v w a.1) where
  by_places : (x ≡ (q, v)) ⊎ Contains xs (q, v) → (x ≡ (q, w)) ⊎ Contains xs (q, w) → (Contains xs (q, v) → Contains xs (q, w) → v ≡ w) → v ≡ w
  by_places (inl d) (inl e) go_on = sym (ap (λ p. p.1) d) ∙ ap (λ p. p.1) e
  by_places (inl d) (inr later) go_on = absurd (let same : x.0.0 ≡ q.0 = ap (λ p. p.0.0) d in let more = not_below (suc x.0.0) xs q w a.1 later in omega (arith, same, more))
  by_places (inr later) (inl e) go_on = absurd (let same : x.0.0 ≡ q.0 = ap (λ p. p.0.0) e in let more = not_below (suc x.0.0) xs q v a.1 later in omega (arith, same, more))
  by_places (inr left) (inr right) go_on = go_on left right

-- so the table has at each number what stands there
exact_by : (low : ℕ) (xs : List (NodeId × ObjId)) (q : NodeId) (v : ObjId) (o : Option ObjId) → Ascends low xs → Contains xs (q, v) → IfSome o (λ w. Contains xs (q, w)) → IsSome o → o ≡ Some v
exact_by low xs q v None a here has some = absurd (search (rules, some))
exact_by low xs q v (Some w) a here has some = ap Some (one_use low xs q w v a has here)

table_exact : (low : ℕ) (es xs : List (NodeId × ObjId)) (q : NodeId) (v : ObjId) → Ascends low xs → es ≡ insert_all same_node [] xs → Contains xs (q, v) → lookup (same_node q) es ≡ Some v
table_exact low es xs q v a table here = exact_by low xs q v (lookup (same_node q) es) a here (node_denotes es xs q (lookup (same_node q) es) table refl) (node_found es xs q v (lookup (same_node q) es) table refl here)

-- a tree whose nodes have numbers from one number on, up to another
record HasNumbers (low high : ℕ) (tree : Tree) : Type 0 where
  first : ℕ
  written : Tree
  tree_is : tree ≡ numbered first written
  from_low : low ≤ first
  to_high : first + node_count written ≤ high

occurrences_rise : (i low high : ℕ) (tree : Tree) → HasNumbers low high tree → Rises low high (occurrences_in_file i tree)
occurrences_rise i low high tree has =
    let own = file_rises i has.first has.written in
    let wide = rises_higher has.first (has.first + node_count has.written) high (occurrences_in_file i (numbered has.first has.written)) has.to_high own in
    let all = rises_lower has.first low high (occurrences_in_file i (numbered has.first has.written)) has.from_low wide in
    subst (λ (t : Tree). Rises low high (occurrences_in_file i t)) (sym has.tree_is) all

-- the number behind those of a numbered tree
behind_numbers : (first : ℕ) (t : Tree) → id_of (numbered first t) + 1 ≡ first + node_count t
behind_numbers first (branch id from to kind text parts) = omega arith

behind_file : (bytes : List ℕ) (first : ℕ) (tree : Tree) → IsFileOf bytes first tree → HasNumbers first (id_of tree + 1) tree
behind_file bytes first tree is =
    let end : first + node_count (with_copies is.written) ≡ id_of tree + 1 = sym (ap (λ t. id_of t + 1) is.tree_is ∙ behind_numbers first (with_copies is.written)) in
    record { first = first; written = with_copies is.written; tree_is = is.tree_is; from_low = omega arith; to_high = omega arith }

-- the first number of the tree at a place
abbrev bound : ℕ → List Tree → ℕ → ℕ
bound first trees zero = first
bound first [] (suc j) = first
bound first (t ∷ ts) (suc j) = bound (id_of t + 1) ts j

first_low : (first : ℕ) (texts : List SourceText) (trees : List Tree) (j : ℕ) → AreTrees first texts trees → first ≤ bound first trees j
first_low first texts trees zero are = omega arith
first_low first [] [] (suc j) are = omega arith
first_low first [] (t ∷ ts) (suc j) are = absurd are
first_low first (x ∷ texts) [] (suc j) are = absurd are
first_low first (x ∷ texts) (t ∷ ts) (suc j) are =
    let has = behind_file x.bytes first t are.0 in
    let later = first_low (id_of t + 1) texts ts j are.1 in
    let start = has.from_low in
    let end = has.to_high in
    omega arith

bound_rises : (first : ℕ) (texts : List SourceText) (trees : List Tree) (i j : ℕ) → AreTrees first texts trees → i ≤ j → bound first trees i ≤ bound first trees j
bound_rises first texts trees zero j are le = first_low first texts trees j are
bound_rises first texts trees (suc i) zero are le = absurd (omega arith)
bound_rises first [] [] (suc i) (suc j) are le = omega arith
bound_rises first [] (t ∷ ts) (suc i) (suc j) are le = absurd are
bound_rises first (x ∷ texts) [] (suc i) (suc j) are le = absurd are
bound_rises first (x ∷ texts) (t ∷ ts) (suc i) (suc j) are le = bound_rises (id_of t + 1) texts ts i j are.1 (omega arith)

numbers_at : (number first : ℕ) (texts : List SourceText) (trees : List Tree) → AreTrees first texts trees → (j : ℕ) (f : FileData) → slice_get (files_from number texts trees) j ≡ Some f → HasNumbers (bound first trees j) (bound first trees (suc j)) f.tree
numbers_at number first [] [] are j f at = cc
numbers_at number first [] (t ∷ ts) are j f at = absurd are
numbers_at number first (x ∷ texts) [] are j f at = absurd are
numbers_at number first (x ∷ texts) (t ∷ ts) are zero f at =
    let same : t ≡ f.tree = ap (λ o. option_map_or (λ (g : FileData). g.tree) o t) at in
    subst (HasNumbers first (id_of t + 1)) same (behind_file x.bytes first t are.0)
numbers_at number first (x ∷ texts) (t ∷ ts) are (suc j) f at = numbers_at (number + 1) (id_of t + 1) texts ts are.1 j f at

-- places that rise
abbrev PlacesRise : ℕ → List ℕ → Type 0
PlacesRise low [] = Unit {0}
PlacesRise low (j ∷ js) = (low ≤ j) × PlacesRise (suc j) js

places_lower : (low lower : ℕ) (js : List ℕ) → lower ≤ low → PlacesRise low js → PlacesRise lower js
places_lower low lower [] le rise = tt
places_lower low lower (j ∷ js) le rise = (let first = rise.0 in omega (arith, le, first), rise.1)

range_rises : (a n : ℕ) → PlacesRise a (range_with_len a n)
range_rises a zero = tt
range_rises a (suc n) = (omega arith, (let next : a + 1 ≡ suc a = omega arith in subst (λ (b : ℕ). PlacesRise b (range_with_len (a + 1) n)) next (range_rises (a + 1) n)))

filter_rises : (test : ℕ → Bool) (low : ℕ) (js : List ℕ) → PlacesRise low js → PlacesRise low (filter test js)
filter_rises test low [] rise = tt
filter_rises test low (j ∷ js) rise = by_test (test j) (filter_rises test (suc j) js rise.1) where
  by_test : (b : Bool) → PlacesRise (suc j) (filter test js) → PlacesRise low (cond b (j ∷ filter test js) (filter test js))
  by_test true rest = (rise.0, rest)
  by_test false rest = places_lower (suc j) low (filter test js) (let first = rise.0 in omega (arith, first)) rest

row_rises : (rows : Option (List ℕ)) (hs : List (Option (List ℕ))) (o : Option (List ℕ)) → rows ≡ option_map (files_of hs) o → PlacesRise 0 (unwrap_or rows [])
row_rises None hs o e = tt
row_rises (Some row) hs None e = cc
row_rises (Some row) hs (Some path) e =
    let same : files_of hs path ≡ row = ap (λ r. unwrap_or r row) (sym e) in
    subst (PlacesRise 0) same (filter_rises (λ i. is_home path (unwrap_or (slice_get hs i) None)) 0 (range_with_len 0 (length hs)) (range_rises 0 (length hs)))

-- the files at rising places
module _ (first : ℕ) (texts : List SourceText) (trees : List Tree) (are : AreTrees first texts trees) where
  record RisesFrom (low : ℕ) (xs : List Occurrence) : Type 0 where
    high : ℕ
    rises : Rises low high xs

  one_more : (i a j : ℕ) (found : Option FileData) (js : List ℕ) → a ≤ j → slice_get (files_from 0 texts trees) j ≡ found → ((n : ℕ) → RisesFrom (bound first trees (suc j)) (occurrences_from n (filter_map (slice_get (files_from 0 texts trees)) js))) → RisesFrom (bound first trees a) (occurrences_from i (cons_option found (filter_map (slice_get (files_from 0 texts trees)) js)))
  one_more i a j None js le at go_on =
      let rest = go_on i in
      record { high = rest.high; rises = rises_lower (bound first trees (suc j)) (bound first trees a) rest.high (occurrences_from i (filter_map (slice_get (files_from 0 texts trees)) js)) (bound_rises first texts trees a (suc j) are (omega arith)) rest.rises }
  one_more i a j (Some f) js le at go_on =
      let rest = go_on (i + 1) in
      let here = occurrences_rise i (bound first trees j) (bound first trees (suc j)) f.tree (numbers_at 0 first texts trees are j f at) in
      let both = rises_append (bound first trees j) (bound first trees (suc j)) rest.high (occurrences_in_file i f.tree) (occurrences_from (i + 1) (filter_map (slice_get (files_from 0 texts trees)) js)) here rest.rises in
      record { high = rest.high; rises = rises_lower (bound first trees j) (bound first trees a) rest.high (occurrences_in_file i f.tree ++ occurrences_from (i + 1) (filter_map (slice_get (files_from 0 texts trees)) js)) (bound_rises first texts trees a j are le) both }

  files_rise : (a i : ℕ) (js : List ℕ) → PlacesRise a js → RisesFrom (bound first trees a) (occurrences_from i (filter_map (slice_get (files_from 0 texts trees)) js))
  files_rise a i [] rise = record { high = bound first trees a; rises = omega arith }
  files_rise a i (j ∷ js) rise = one_more i a j (slice_get (files_from 0 texts trees) j) js rise.0 refl (λ n. files_rise (suc j) n js rise.1)

-- a package of a module is one of its table, in the order
pub record IsPlaced (f : ℕ → PackageData) (order : List ℕ) (p : PackageData) : Type 0 where
  pub place : ℕ
  pub stands : Contains order place
  pub is : f place ≡ p

pub placed_at : (f : ℕ → PackageData) (order : List ℕ) (k : ℕ) (p : PackageData) → slice_get (map f order) k ≡ Some p → IsPlaced f order p
placed_at f [] k p at = cc
placed_at f (j ∷ order) zero p at = record { place = j; stands = contains_head j order j refl; is = ap (λ o. unwrap_or o (f j)) at }
placed_at f (j ∷ order) (suc k) p at = let rest = placed_at f order k p at in record { place = rest.place; stands = contains_tail j order rest.place rest.stands; is = rest.is }

-- the uses of a package of a module that is loaded
module_uses : (m : ModuleData) (known : ℕ → PackageNames) (k : ℕ) (p : PackageData) → IsLoaded m → slice_get m.packages k ≡ Some p → Ascends (bound first_number [] 0) (uses_of known k p)
module_uses m known k p is at =
    let order = in_order is.table is.is_module.order in
    let files = files_from 0 is.texts is.trees in
    let made : IsPlaced (package_at files is.heads is.table order) order p = placed_at (package_at files is.heads is.table order) order k p (sym (ap (λ (n : ModuleData). slice_get n.packages k) is.is_module.module_is) ∙ at) in
    let row : PlacesRise 0 (row_at is.table.files made.place) = row_rises (slice_get is.table.files made.place) (homes is.path (own_paths is.path is.heads) is.heads) (slice_get is.table.paths made.place) (ap (λ rows. slice_get rows made.place) is.parts.is_table.files ∙ slice_get-map (files_of (homes is.path (own_paths is.path is.heads) is.heads)) is.table.paths made.place) in
    let rise = files_rise first_number is.texts is.trees is.parts.are_trees 0 0 (row_at is.table.files made.place) row in
    let all = uses_ascend known (regions_of known k p) first_number rise.high (occurrences_from 0 (filter_map (slice_get files) (row_at is.table.files made.place))) rise.rises in
    let same : filter_map (slice_get files) (row_at is.table.files made.place) ≡ p.files = ap (λ (q : PackageData). q.files) made.is in
    subst (λ (fs : List FileData). Ascends first_number (flat_map (uses_at known (regions_of known k p)) (occurrences_from 0 fs))) same all

pub resolves_exactly : (m : ModuleData) (k : ℕ) (p : PackageData) (scopes : Scopes) → IsLoaded m → slice_get m.packages k ≡ Some p → HasTables m k p scopes → (id : NodeId) (d : ObjId) → Contains (uses_of (known_in m) k p) (id, d) → lookup (same_node id) scopes.uses.entries ≡ Some d
resolves_exactly m k p scopes is at tables id d here = table_exact first_number scopes.uses.entries (uses_of (known_in m) k p) id d (module_uses m (known_in m) k p is at) tables.uses here
