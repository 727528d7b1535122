-- The numbers of the nodes of a file rise in source order, so each identifier has a number of its own.
use Rattle.std.proofs.Common.{◌≡◌, ℕ, suc, ◌+◌, ◌<◌, ◌≤◌, Option, Some, None, List, [], ◌∷◌, ◌++◌, map, sym, ap, ◌∙◌, subst, arith}
use Rattle.std.specs.List.{flat_map}
use Rattle.std.proofs.lemmas.Grind.{flat_map-append}
use Rattle.std.proofs.lemmas.List.{append-nil}
use Rattle.go_tree.specs.declared.node_kind.NodeKind.{NodeKind}
use Rattle.go_tree.specs.declared.node_kind.NodeKind.TheVariants.{Name, SelectorExpr, ConstDecl, ConstGroup, ConstCopy, ExprList, VarDecl, VarGroup, TypeDecl, TypeGroup, TypeSpec, AliasSpec}
use Rattle.go_tree.specs.Tree.{Tree, branch, Trees, no_trees, more_trees, list_of, node_count, node_count_of_all}
use Rattle.go_module.specs.Numbers.{numbered, all_numbered}
use Rattle.go_module.specs.declared.block.Occurrence.{Occurrence}
use Rattle.go_module.specs.declared.block.Selected.{Selected}
use Rattle.go_module.specs.declared.object.ObjKind.{ObjKind}
use Rattle.go_module.specs.declared.object.ObjKind.TheVariants.{Alias, Defined}
use Rattle.go_module.specs.Names.Declarations.{Spec, behind_names, const_spec, list_behind, specs_in, type_before, type_spec, type_spec_as, types_behind, values_behind, var_spec}
use Rattle.go_module.specs.Names.Inner.{inner_by, inner_of}
use Rattle.go_module.specs.Names.Occurrences.{found_in, with_selected, names_in, names_of_each, names_in_parts, occurrences_in_file}
use Rattle.go_scope.proofs.InnerLemmas.{holds_inner}

-- the last number of an occurrence: that of the name behind its `.`, if one stands there
abbrev pub last_of : ℕ → Option Selected → ℕ
last_of id None = id
last_of id (Some s) = s.id.0

-- the name behind a `.` has a higher number than what stands before it
abbrev pub IsBehind : ℕ → Option Selected → Type 0
IsBehind id None = Unit {0}
IsBehind id (Some s) = id < s.id.0

-- the numbers of occurrences rise, from a number on, up to another, which is not reached
abbrev pub Rises : ℕ → ℕ → List Occurrence → Type 0
Rises low high [] = low ≤ high
Rises low high (o ∷ rest) = (low ≤ o.id.0) × IsBehind o.id.0 o.selected × Rises (suc (last_of o.id.0 o.selected)) high rest

pub rises_lower : (low lower high : ℕ) (xs : List Occurrence) → lower ≤ low → Rises low high xs → Rises lower high xs
rises_lower low lower high [] le r = omega arith
rises_lower low lower high (o ∷ xs) le r = (let first = r.0 in omega (arith, le, first), r.1, r.2)

pub rises_higher : (low high higher : ℕ) (xs : List Occurrence) → high ≤ higher → Rises low high xs → Rises low higher xs
rises_higher low high higher [] le r = omega arith
rises_higher low high higher (o ∷ xs) le r = (r.0, r.1, rises_higher (suc (last_of o.id.0 o.selected)) high higher xs le r.2)

pub rises_append : (low mid high : ℕ) (xs ys : List Occurrence) → Rises low mid xs → Rises mid high ys → Rises low high (xs ++ ys)
rises_append low mid high [] ys r s = rises_lower mid low high ys r s
rises_append low mid high (o ∷ xs) ys r s = (r.0, r.1, rises_append (suc (last_of o.id.0 o.selected)) mid high xs ys r.2 s)

-- the numbers are none, or the first is below the bound
rises_within : (low high : ℕ) (xs : List Occurrence) → Rises low high xs → low ≤ high
rises_within low high [] r = r
rises_within low high (o ∷ xs) r = within_by o.selected r.1 (rises_within (suc (last_of o.id.0 o.selected)) high xs r.2) where
  within_by : (selected : Option Selected) → IsBehind o.id.0 selected → suc (last_of o.id.0 selected) ≤ high → low ≤ high
  within_by None behind rest = let first = r.0 in omega (arith, first, rest)
  within_by (Some s) behind rest = let first = r.0 in omega (arith, first, behind, rest)

-- what occurs in parts, each beside what occurs in it, rises from part to part
record RisesTo (low : ℕ) (xs : List Occurrence) (Rest : ℕ → Type 0) : Type 0 where
  mid : ℕ
  here : Rises low mid xs
  rest : Rest mid

abbrev PartsRise : ℕ → ℕ → List (Tree × List Occurrence) → Type 0
PartsRise high low [] = low ≤ high
PartsRise high low (part ∷ parts) = RisesTo low part.1 (λ mid. PartsRise high mid parts)

parts_lower : (high low lower : ℕ) (parts : List (Tree × List Occurrence)) → lower ≤ low → PartsRise high low parts → PartsRise high lower parts
parts_lower high low lower [] le has = omega (arith, le, has)
parts_lower high low lower (part ∷ parts) le has = record { mid = has.mid; here = rises_lower low lower has.mid part.1 le has.here; rest = has.rest }

parts_within : (high low : ℕ) (parts : List (Tree × List Occurrence)) → PartsRise high low parts → low ≤ high
parts_within high low [] has = has
parts_within high low (part ∷ parts) has =
    let first = rises_within low has.mid part.1 has.here in
    let rest = parts_within high has.mid parts has.rest in
    omega (arith, first, rest)

parts_later : (high low : ℕ) (part : Tree × List Occurrence) (parts : List (Tree × List Occurrence)) → PartsRise high low (part ∷ parts) → PartsRise high low parts
parts_later high low part parts has = parts_lower high has.mid low parts (rises_within low has.mid part.1 has.here) has.rest

parts_keep : (high low : ℕ) (part : Tree × List Occurrence) (xs ys : List (Tree × List Occurrence)) → ((next : ℕ) → PartsRise high next xs → PartsRise high next ys) → PartsRise high low (part ∷ xs) → PartsRise high low (part ∷ ys)
parts_keep high low part xs ys go_on has = record { mid = has.mid; here = has.here; rest = go_on has.mid has.rest }

all_rise : (high low : ℕ) (parts : List (Tree × List Occurrence)) → PartsRise high low parts → Rises low high (flat_map (λ part. part.1) parts)
all_rise high low [] has = has
all_rise high low (part ∷ parts) has = rises_append low has.mid high part.1 (flat_map (λ part. part.1) parts) has.here (all_rise high has.mid parts has.rest)

found_rises : (high low : ℕ) (kind : NodeKind) (parts : List (Tree × List Occurrence)) → PartsRise high low parts → Rises low high (found_in kind parts)
found_rises high low kind parts has =
    let inner = holds_inner (λ (part : Tree × List Occurrence). part.0) (PartsRise high) (parts_within high) (parts_later high) (parts_keep high) in
    all_rise high low (inner_by (λ part. part.0) (inner_of kind) parts) (inner (inner_of kind) low parts has)

module _ (file : ℕ) (told_at : Option ℕ) where
  -- an identifier before a `.`
  rises_selected : (first : ℕ) (operand name : Tree) → Rises first (first + node_count operand) (names_in file told_at (numbered first operand)) → Rises first (first + (1 + (node_count operand + (node_count name + 0)))) (with_selected file told_at (numbered first operand) (numbered (first + node_count operand) name) (names_in file told_at (numbered first operand)))
  rises_selected first (branch id from to Name text parts) (branch id2 from2 to2 kind2 text2 parts2) r = (omega arith, omega arith, omega arith)
  rises_selected first (branch id from to kind text parts) name r = rises_higher first (first + node_count (branch id from to kind text parts)) (first + (1 + (node_count (branch id from to kind text parts) + (node_count name + 0)))) (names_in file told_at (numbered first (branch id from to kind text parts))) (omega arith) r

  mutual
    tree_rises : (first : ℕ) (t : Tree) → Rises first (first + node_count t) (names_in file told_at (numbered first t))
    tree_rises first (branch id from to Name text parts) = (omega arith, tt, omega arith)
    tree_rises first (branch id from to SelectorExpr text (more_trees operand (more_trees name no_trees))) = rises_selected first operand name (tree_rises first operand)
    tree_rises first (branch id from to kind text parts) =
        found_rises (first + (1 + node_count_of_all parts)) first kind (names_of_each file told_at (all_numbered first parts)) (parts_rise first (first + (1 + node_count_of_all parts)) parts (omega arith))

    parts_rise : (first high : ℕ) (ts : Trees) → first + node_count_of_all ts ≤ high → PartsRise high first (names_of_each file told_at (all_numbered first ts))
    parts_rise first high no_trees le = omega (arith, le)
    parts_rise first high (more_trees t ts) le = record {
      mid = first + node_count t;
      here = tree_rises first t;
      rest = parts_rise (first + node_count t) high ts (omega (arith, le));
    }

  -- a list of nodes
  list_rises : (first : ℕ) (ts : Trees) → Rises first (first + node_count_of_all ts) (flat_map (names_in file told_at) (list_of (all_numbered first ts)))
  list_rises first no_trees = omega arith
  list_rises first (more_trees t ts) =
      let next = first + node_count t in
      let same : next + node_count_of_all ts ≡ first + (node_count t + node_count_of_all ts) = omega arith in
      let rest = list_of (all_numbered next ts) in
      rises_append first next (first + (node_count t + node_count_of_all ts)) (names_in file told_at (numbered first t)) (flat_map (names_in file told_at) rest) (tree_rises first t)
      (subst (λ (n : ℕ). Rises next n (flat_map (names_in file told_at) rest)) same (list_rises next ts))

  -- what stands behind the names of a spec: a type, where one stands, and a list
  abbrev occurs_behind : List Tree → List Occurrence
  occurs_behind parts = flat_map (names_in file told_at) (types_behind parts ++ values_behind parts)

  behind_rises : (first : ℕ) (ts : Trees) → Rises first (first + node_count_of_all ts) (occurs_behind (list_of (all_numbered first ts)))
  behind_rises first no_trees = omega arith
  behind_rises first (more_trees (branch id from to kind text parts) no_trees) =
      rises_higher first (first + node_count_of_all parts) (first + ((1 + node_count_of_all parts) + 0)) (flat_map (names_in file told_at) (list_of (all_numbered first parts))) (omega arith) (list_rises first parts)
  behind_rises first (more_trees type (more_trees (branch id from to kind text parts) no_trees)) =
      let next = first + node_count type in
      let high = first + (node_count type + ((1 + node_count_of_all parts) + 0)) in
      let values = flat_map (names_in file told_at) (list_of (all_numbered next parts)) in
      rises_append first next high (names_in file told_at (numbered first type)) values (tree_rises first type)
      (rises_higher next (next + node_count_of_all parts) high values (omega arith) (list_rises next parts))
  behind_rises first (more_trees a (more_trees b (more_trees c ts))) = omega arith

  -- or the copy of these
  names_rise : (first : ℕ) (ts : Trees) → Rises first (first + node_count_of_all ts) (occurs_behind (behind_names (list_of (all_numbered first ts))))
  names_rise first no_trees = omega arith
  names_rise first (more_trees (branch id from to ConstCopy text parts) no_trees) =
      rises_higher first (first + node_count_of_all parts) (first + ((1 + node_count_of_all parts) + 0)) (occurs_behind (list_of (all_numbered first parts))) (omega arith) (behind_rises first parts)
  names_rise first (more_trees (branch id from to ConstCopy text parts) (more_trees b ts)) = behind_rises first (more_trees (branch id from to ConstCopy text parts) (more_trees b ts))
  names_rise first (more_trees (branch id from to kind text parts) ts) = behind_rises first (more_trees (branch id from to kind text parts) ts)

  -- what stands behind the names of variables: a type, a list, or both
  abbrev occurs_variable : List Tree → List Occurrence
  occurs_variable parts = flat_map (names_in file told_at) (type_before parts ++ list_behind parts)

  variable_rises : (first : ℕ) (ts : Trees) → Rises first (first + node_count_of_all ts) (occurs_variable (list_of (all_numbered first ts)))
  variable_rises first no_trees = omega arith
  variable_rises first (more_trees (branch id from to ExprList text parts) no_trees) =
      rises_higher first (first + node_count_of_all parts) (first + ((1 + node_count_of_all parts) + 0)) (flat_map (names_in file told_at) (list_of (all_numbered first parts))) (omega arith) (list_rises first parts)
  variable_rises first (more_trees (branch id from to kind text parts) no_trees) = list_rises first (more_trees (branch id from to kind text parts) no_trees)
  variable_rises first (more_trees type (more_trees (branch id from to kind text parts) no_trees)) = behind_rises first (more_trees type (more_trees (branch id from to kind text parts) no_trees))
  variable_rises first (more_trees a (more_trees b (more_trees c ts))) =
      rises_higher first (first + (node_count a + 0)) (first + (node_count a + (node_count b + (node_count c + node_count_of_all ts)))) (flat_map (names_in file told_at) (numbered first a ∷ [])) (omega arith) (list_rises first (more_trees a no_trees))

-- the node of these parts has one number more
wider : (first : ℕ) (parts : Trees) (xs : List Occurrence) → Rises first (first + node_count_of_all parts) xs → Rises first (first + (1 + node_count_of_all parts)) xs
wider first parts xs r = rises_higher first (first + node_count_of_all parts) (first + (1 + node_count_of_all parts)) xs (omega arith) r

-- what occurs in one spec of a node rises, as what occurs behind its first part does
abbrev SpecRises : (Tree → Spec) → Type 0
SpecRises make = (first : ℕ) (t : Tree) → Rises first (first + node_count t) (names_in_parts (make (numbered first t)))

behind_first : (first : ℕ) (names : Tree) (rest : Trees) (xs : List Occurrence) → Rises (first + node_count names) (first + node_count names + node_count_of_all rest) xs → Rises first (first + (1 + (node_count names + node_count_of_all rest))) xs
behind_first first names rest xs r =
    let behind = first + node_count names in
    rises_lower behind first (first + (1 + (node_count names + node_count_of_all rest))) xs (omega arith)
    (rises_higher behind (behind + node_count_of_all rest) (first + (1 + (node_count names + node_count_of_all rest))) xs (omega arith) r)

const_rises : (file : ℕ) → SpecRises (const_spec file)
const_rises file first (branch id from to kind text no_trees) = omega arith
const_rises file first (branch id from to kind text (more_trees names rest)) =
    let spec = const_spec file (numbered first (branch id from to kind text (more_trees names rest))) in
    behind_first first names rest (names_in_parts spec) (names_rise file spec.told_at (first + node_count names) rest)

var_rises : (file : ℕ) → SpecRises (var_spec file)
var_rises file first (branch id from to kind text no_trees) = omega arith
var_rises file first (branch id from to kind text (more_trees names rest)) =
    let spec = var_spec file (numbered first (branch id from to kind text (more_trees names rest))) in
    behind_first first names rest (names_in_parts spec) (variable_rises file None (first + node_count names) rest)

specs_rise : (make : Tree → Spec) → SpecRises make → (first : ℕ) (specs : Trees) → Rises first (first + node_count_of_all specs) (flat_map names_in_parts (map make (list_of (all_numbered first specs))))
specs_rise make one first no_trees = omega arith
specs_rise make one first (more_trees spec specs) =
    let next = first + node_count spec in
    let same : next + node_count_of_all specs ≡ first + (node_count spec + node_count_of_all specs) = omega arith in
    let rest = map make (list_of (all_numbered next specs)) in
    rises_append first next (first + (node_count spec + node_count_of_all specs)) (names_in_parts (make (numbered first spec))) (flat_map names_in_parts rest) (one first spec)
    (subst (λ (n : ℕ). Rises next n (flat_map names_in_parts rest)) same (specs_rise make one next specs))

-- what occurs in all specs of a node rises, so does what occurs in those of a list of nodes
abbrev EachRises : (Tree → List Spec) → Type 0
EachRises make = (first : ℕ) (t : Tree) → Rises first (first + node_count t) (flat_map names_in_parts (make (numbered first t)))

each_rises : (make : Tree → List Spec) → EachRises make → (first : ℕ) (ts : Trees) → Rises first (first + node_count_of_all ts) (flat_map names_in_parts (flat_map make (list_of (all_numbered first ts))))
each_rises make one first no_trees = omega arith
each_rises make one first (more_trees t ts) =
    let next = first + node_count t in
    let same : next + node_count_of_all ts ≡ first + (node_count t + node_count_of_all ts) = omega arith in
    let rest = flat_map make (list_of (all_numbered next ts)) in
    let both = rises_append first next (first + (node_count t + node_count_of_all ts)) (flat_map names_in_parts (make (numbered first t))) (flat_map names_in_parts rest) (one first t) (subst (λ (n : ℕ). Rises next n (flat_map names_in_parts rest)) same (each_rises make one next ts)) in
    subst (Rises first (first + (node_count t + node_count_of_all ts))) (sym (flat_map-append names_in_parts (make (numbered first t)) rest)) both

-- a type or an alias: what occurs behind its name
parts_alone : (file first : ℕ) (ts : Trees) → Rises first (first + node_count_of_all ts) (flat_map (names_in file None) (list_of (all_numbered first ts) ++ []) ++ [])
parts_alone file first ts =
    let all = flat_map (names_in file None) (list_of (all_numbered first ts)) in
    let same : flat_map (names_in file None) (list_of (all_numbered first ts) ++ []) ++ [] ≡ all = append-nil (flat_map (names_in file None) (list_of (all_numbered first ts) ++ [])) ∙ ap (flat_map (names_in file None)) (append-nil (list_of (all_numbered first ts))) in
    subst (Rises first (first + node_count_of_all ts)) (sym same) (list_rises file None first ts)

one_type : (kind : ObjKind) (file first : ℕ) (spec : Tree) (ts : Trees) → Rises first (first + (1 + node_count_of_all ts)) (flat_map names_in_parts (type_spec_as kind file spec (all_numbered first ts) ∷ []))
one_type kind file first spec no_trees = omega arith
one_type kind file first spec (more_trees name rest) =
    behind_first first name rest (flat_map names_in_parts (type_spec_as kind file spec (all_numbered first (more_trees name rest)) ∷ [])) (parts_alone file (first + node_count name) rest)

type_rises : (file : ℕ) → EachRises (type_spec file)
type_rises file first (branch id from to TypeSpec text parts) = one_type Defined file first (numbered first (branch id from to TypeSpec text parts)) parts
type_rises file first (branch id from to AliasSpec text parts) = one_type Alias file first (numbered first (branch id from to AliasSpec text parts)) parts
type_rises file first (branch id from to kind text parts) = omega arith

declaration_rises : (file : ℕ) → EachRises (specs_in file)
declaration_rises file first (branch id from to ConstDecl text parts) = wider first parts (flat_map names_in_parts (map (const_spec file) (list_of (all_numbered first parts)))) (specs_rise (const_spec file) (const_rises file) first parts)
declaration_rises file first (branch id from to ConstGroup text parts) = wider first parts (flat_map names_in_parts (map (const_spec file) (list_of (all_numbered first parts)))) (specs_rise (const_spec file) (const_rises file) first parts)
declaration_rises file first (branch id from to VarDecl text parts) = wider first parts (flat_map names_in_parts (map (var_spec file) (list_of (all_numbered first parts)))) (specs_rise (var_spec file) (var_rises file) first parts)
declaration_rises file first (branch id from to VarGroup text parts) = wider first parts (flat_map names_in_parts (map (var_spec file) (list_of (all_numbered first parts)))) (specs_rise (var_spec file) (var_rises file) first parts)
declaration_rises file first (branch id from to TypeDecl text parts) = wider first parts (flat_map names_in_parts (flat_map (type_spec file) (list_of (all_numbered first parts)))) (each_rises (type_spec file) (type_rises file) first parts)
declaration_rises file first (branch id from to TypeGroup text parts) = wider first parts (flat_map names_in_parts (flat_map (type_spec file) (list_of (all_numbered first parts)))) (each_rises (type_spec file) (type_rises file) first parts)
declaration_rises file first (branch id from to kind text parts) = omega arith

-- the occurrences of a file whose nodes are numbered from the first on
pub file_rises : (file first : ℕ) (t : Tree) → Rises first (first + node_count t) (occurrences_in_file file (numbered first t))
file_rises file first (branch id from to kind text parts) = wider first parts (flat_map names_in_parts (flat_map (specs_in file) (list_of (all_numbered first parts)))) (each_rises (specs_in file) (declaration_rises file) first parts)
