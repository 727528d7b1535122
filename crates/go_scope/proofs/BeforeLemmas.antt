-- What the scopes of a package tell those that import it is what the package is known by.
use Rattle.std.proofs.Common.{◌≡◌, ◌<◌, Bool, true, false, cond, ℕ, length, get_or, subst, Option, Some, None, List, [], ◌∷◌, ◌++◌, ◌⊎◌, inl, inr, map, filter, refl, sym, ap, ◌∙◌, arith}
use Rattle.std.proofs.lemmas.Bool.Decides.{nat_tests}
use Rattle.std.proofs.lemmas.List.{append_assoc, length-map}
use Rattle.std.proofs.lemmas.Option.{slice_get-get_or, slice_get-map}
use Rattle.std.specs.Prelude.{if◌then◌else◌, option_and_then, slice_get}
use Rattle.std.specs.List.{Contains, cons_option, filter_map}
use Rattle.std.specs.Map.{lookup}
use Rattle.std.specs.Option.{option_map, option_map_or}
use Rattle.indexmap.specs.IndexMap.{insert_entry, insert_all}
use Rattle.go_base.specs.declared.ids.ObjId.{ObjId}
use Rattle.go_module.specs.declared.block.Region.{Region}
use Rattle.go_module.specs.declared.module.Module.{Module}
use Rattle.go_module.specs.declared.module.Package.{Package}
use Rattle.go_module.specs.declared.object.Object.{Object}
use Rattle.go_module.specs.declared.scopes.Scopes.{Scopes}
use Rattle.go_module.specs.Modules.Module.{ModuleData, PackageData, module_view, package_view}
use Rattle.go_module.specs.Modules.Paths.{same_text}
use Rattle.go_module.specs.Names.Exported.{is_exported}
use Rattle.go_module.specs.Names.Imports.{known_by_tables, known_in}
use Rattle.go_module.specs.Names.PackageBlock.{names_of, object_id, objects_of, package_block, region_entries}
use Rattle.go_module.specs.Names.Tables.{Member, members_of, outer_regions}
use Rattle.go_module.specs.Scopes.{same_object}
use Rattle.go_module.proofs.MemberLemmas.{cons_cases, contains_head, contains_tail, contains_none}
use Rattle.go_scope.specs.declared.known.Before.{Before}
use Rattle.go_scope.specs.Collecting.{AreBefore, IsCollected}
use Rattle.go_scope.specs.Known.{known_by}
use Rattle.go_scope.specs.Stands.{StandsIn}

-- of two keys that differ a third is at most one
never_both : {K : Type 0} (eq : K → K → Bool) (same : (x y : K) → eq x y ≡ true → x ≡ y) (q k k0 : K) → eq k k0 ≡ false → eq q k0 ≡ true → eq q k ≡ true → ⊥
never_both eq same q k k0 other first second =
    let wrong : false ≡ true = sym other ∙ ap (λ y. eq y k0) (sym (same q k second)) ∙ first in
    cc

-- tables that pairs are put into, the one and the other
module _ {K V : Type 0} (eq : K → K → Bool) (same : (x y : K) → eq x y ≡ true → x ≡ y) (self : (x : K) → eq x x ≡ true) where
  kept_once : (b : Bool) (w x : V) (rest : Option V) → cond b (Some w) rest ≡ cond b (Some w) (cond b (Some x) rest)
  kept_once true w x rest = refl
  kept_once false w x rest = refl

  swapped : (a b : Bool) (w x : V) (rest : Option V) → (a ≡ true → b ≡ true → ⊥) → cond a (Some x) (cond b (Some w) rest) ≡ cond b (Some w) (cond a (Some x) rest)
  swapped true true w x rest never = absurd (never refl refl)
  swapped true false w x rest never = refl
  swapped false true w x rest never = refl
  swapped false false w x rest never = refl

  read_by : (e : K × V) (es : List (K × V)) (k q : K) (w : V) → lookup (eq q) (insert_entry eq es k w) ≡ cond (eq q k) (Some w) (lookup (eq q) es) → (b : Bool) → eq k e.0 ≡ b → lookup (eq q) (if b then (e.0, w) ∷ es else e ∷ insert_entry eq es k w) ≡ cond (eq q k) (Some w) (lookup (eq q) (e ∷ es))
  read_by e es k q w go_on true at =
      kept_once (eq q e.0) w e.1 (lookup (eq q) es)
      ∙ ap (λ y. cond (eq q y) (Some w) (cond (eq q e.0) (Some e.1) (lookup (eq q) es))) (sym (same k e.0 at))
  read_by e es k q w go_on false at =
      ap (cond (eq q e.0) (Some e.1)) go_on
      ∙ swapped (eq q e.0) (eq q k) w e.1 (lookup (eq q) es) (never_both eq same q k e.0 at)

  -- what is read behind one more pair
  read_after : (es : List (K × V)) (k q : K) (w : V) → lookup (eq q) (insert_entry eq es k w) ≡ cond (eq q k) (Some w) (lookup (eq q) es)
  read_after [] k q w = refl
  read_after (e ∷ es) k q w = read_by e es k q w (read_after es k q w) (eq k e.0) refl

  -- where both tell the same of a key, they do so behind the same pairs
  still_alike : (xs es fs : List (K × V)) (q : K) → lookup (eq q) es ≡ lookup (eq q) fs → lookup (eq q) (insert_all eq es xs) ≡ lookup (eq q) (insert_all eq fs xs)
  still_alike [] es fs q alike = alike
  still_alike (x ∷ xs) es fs q alike =
      still_alike xs (insert_entry eq es x.0 x.1) (insert_entry eq fs x.0 x.1) q
      (read_after es x.0 q x.1 ∙ ap (cond (eq q x.0) (Some x.1)) alike ∙ sym (read_after fs x.0 q x.1))

  alike_by : (xs es fs : List (K × V)) (x : K × V) (q : K) (v : V) → (Contains xs (q, v) → lookup (eq q) (insert_all eq es (x ∷ xs)) ≡ lookup (eq q) (insert_all eq fs (x ∷ xs))) → (x ≡ (q, v)) ⊎ Contains xs (q, v) → lookup (eq q) (insert_all eq es (x ∷ xs)) ≡ lookup (eq q) (insert_all eq fs (x ∷ xs))
  alike_by xs es fs x q v go_on (inl here) =
      let found : eq q x.0 ≡ true = ap (λ p. eq q p.0) here ∙ self q in
      let left = read_after es x.0 q x.1 ∙ ap (λ b. cond b (Some x.1) (lookup (eq q) es)) found in
      let right = read_after fs x.0 q x.1 ∙ ap (λ b. cond b (Some x.1) (lookup (eq q) fs)) found in
      still_alike xs (insert_entry eq es x.0 x.1) (insert_entry eq fs x.0 x.1) q (left ∙ sym right)
  alike_by xs es fs x q v go_on (inr later) = go_on later

  -- what is read at a key of these pairs, whatever was put in before them
  pub read_alike : (xs es fs : List (K × V)) (q : K) (v : V) → Contains xs (q, v) → lookup (eq q) (insert_all eq es xs) ≡ lookup (eq q) (insert_all eq fs xs)
  read_alike [] es fs q v in_list = absurd (contains_none (q, v) in_list)
  read_alike (x ∷ xs) es fs q v in_list = alike_by xs es fs x q v (read_alike xs (insert_entry eq es x.0 x.1) (insert_entry eq fs x.0 x.1) q v) (cons_cases x xs (q, v) in_list)

put_in_both : {K V : Type 0} (eq : K → K → Bool) (es xs ys : List (K × V)) → insert_all eq es (xs ++ ys) ≡ insert_all eq (insert_all eq es xs) ys
put_in_both eq es [] ys = refl
put_in_both eq es (x ∷ xs) ys = put_in_both eq (insert_entry eq es x.0 x.1) xs ys

-- what holds of each value that is put in holds of each value of the table
module _ {K V : Type 0} (eq : K → K → Bool) (P : V → Type 0) where
  abbrev AllValues : List (K × V) → Type 0
  AllValues [] = Unit {0}
  AllValues (e ∷ es) = P e.1 × AllValues es

  value_by : (e : K × V) (es : List (K × V)) (k : K) (w : V) → P w → AllValues (e ∷ es) → AllValues (insert_entry eq es k w) → (b : Bool) → AllValues (if b then (e.0, w) ∷ es else e ∷ insert_entry eq es k w)
  value_by e es k w holds all go_on true = (holds, all.1)
  value_by e es k w holds all go_on false = (all.0, go_on)

  value_after : (es : List (K × V)) (k : K) (w : V) → P w → AllValues es → AllValues (insert_entry eq es k w)
  value_after [] k w holds all = (holds, tt)
  value_after (e ∷ es) k w holds all = value_by e es k w holds all (value_after es k w holds all.1) (eq k e.0)

  values_in : (xs es : List (K × V)) → AllValues es → AllValues xs → AllValues (insert_all eq es xs)
  values_in [] es all more = all
  values_in (x ∷ xs) es all more = values_in xs (insert_entry eq es x.0 x.1) (value_after es x.0 x.1 more.0 all) more.1

object_is : (a b : ObjId) → same_object a b ≡ true → a ≡ b
object_is a b e = let at : a.0 ≡ b.0 = grind (arith, nat_tests) in λ i. record { 0 = at i }

object_self : (a : ObjId) → same_object a a ≡ true
object_self a = grind (arith, nat_tests)

-- a region's object stands among the entries
entry_of : (regions : List Region) (r : Region) → Contains regions r → Contains (region_entries regions) (object_id r.object, r.object)
entry_of [] r in_list = absurd (contains_none r in_list)
entry_of (x ∷ regions) r in_list = by_place (cons_cases x regions r in_list) (entry_of regions r) where
  by_place : (x ≡ r) ⊎ Contains regions r → (Contains regions r → Contains (region_entries regions) (object_id r.object, r.object)) → Contains (region_entries (x ∷ regions)) (object_id r.object, r.object)
  by_place (inl here) go_on = contains_head (object_id x.object, x.object) (region_entries regions) (object_id r.object, r.object) (ap (λ (y : Region). (object_id y.object, y.object)) here)
  by_place (inr later) go_on = contains_tail (object_id x.object, x.object) (region_entries regions) (object_id r.object, r.object) (go_on later)

-- two tables of objects that tell the same of each number that a table of names has
module _ (left right : List (ObjId × Object)) where
  abbrev TellsAlike : ObjId → Type 0
  TellsAlike d = lookup (same_object d) left ≡ lookup (same_object d) right

  named_alike : (regions : List Region) → ((r : Region) → Contains regions r → TellsAlike (object_id r.object)) → AllValues same_text TellsAlike (map (λ r. (r.object.name, object_id r.object)) regions)
  named_alike [] each = tt
  named_alike (r ∷ regions) each = (each r (contains_head r regions r refl), named_alike regions (λ s here. each s (contains_tail r regions s here)))

  exports_alike : (names : List (List ℕ × ObjId)) → AllValues same_text TellsAlike names → filter_map (λ entry. lookup (same_object entry.1) left) (filter (λ entry. is_exported entry.0) names) ≡ filter_map (λ entry. lookup (same_object entry.1) right) (filter (λ entry. is_exported entry.0) names)
  exports_alike [] all = refl
  exports_alike (e ∷ names) all = by_test (is_exported e.0) (exports_alike names all.1) where
    rest : List (List ℕ × ObjId)
    rest = filter (λ entry. is_exported entry.0) names

    by_test : (b : Bool) → filter_map (λ entry. lookup (same_object entry.1) left) rest ≡ filter_map (λ entry. lookup (same_object entry.1) right) rest → filter_map (λ entry. lookup (same_object entry.1) left) (cond b (e ∷ rest) rest) ≡ filter_map (λ entry. lookup (same_object entry.1) right) (cond b (e ∷ rest) rest)
    by_test true go_on = (λ j. cons_option (all.0 j) (go_on j))
    by_test false go_on = go_on

  found_alike : (test : List ℕ → Bool) (names : List (List ℕ × ObjId)) → AllValues same_text TellsAlike names → option_and_then (λ d. lookup (same_object d) left) (lookup test names) ≡ option_and_then (λ d. lookup (same_object d) right) (lookup test names)
  found_alike test [] all = refl
  found_alike test (e ∷ names) all = by_test (test e.0) (found_alike test names all.1) where
    by_test : (b : Bool) → option_and_then (λ d. lookup (same_object d) left) (lookup test names) ≡ option_and_then (λ d. lookup (same_object d) right) (lookup test names) → option_and_then (λ d. lookup (same_object d) left) (cond b (Some e.1) (lookup test names)) ≡ option_and_then (λ d. lookup (same_object d) right) (cond b (Some e.1) (lookup test names))
    by_test true go_on = all.0
    by_test false go_on = go_on

  pub tables_alike : (clause : List ℕ) (names : List (List ℕ × ObjId)) → AllValues same_text TellsAlike names → known_by_tables clause names left ≡ known_by_tables clause names right
  tables_alike clause names all = λ i. record {
    clause = clause;
    exports = exports_alike names all i;
    exported = λ name. if is_exported name then found_alike (same_text name) names all i else None;
  }

-- by the names of a block a table of objects tells the objects of the block where these were put in last
pub block_known : (clause : List ℕ) (before : List (ObjId × Object)) (block : List Region) → known_by_tables clause (names_of block) (insert_all same_object [] (before ++ region_entries block)) ≡ known_by_tables clause (names_of block) (objects_of block)
block_known clause before block =
    let all = insert_all same_object [] (before ++ region_entries block) in
    let own = objects_of block in
    let each : (r : Region) → Contains block r → TellsAlike all own (object_id r.object) =
    λ r here. ap (lookup (same_object (object_id r.object))) (put_in_both same_object [] before (region_entries block))
    ∙ read_alike same_object object_is object_self (region_entries block) (insert_all same_object [] before) [] (object_id r.object) r.object (entry_of block r here) in
    tables_alike all own clause (names_of block) (values_in same_text (TellsAlike all own) (map (λ r. (r.object.name, object_id r.object)) block) [] tt (named_alike all own block each))

-- the name in the package clauses
viewed_name : (o : Option Package) → option_map_or (λ (p : PackageData). p.name) (option_map package_view o) [] ≡ option_map_or (λ (p : Package). p.name) o []
viewed_name None = refl
viewed_name (Some p) = refl

-- a package that has its scopes is known by what it is known by in its module
pub known_is : (m : ModuleData) (b : Before) (q : ℕ) → m.packages ≡ map package_view b.packages.now → IsCollected m q b.scopes.now → known_by b q ≡ known_in m q
known_is m b q packages_are has =
    let p = has.is.p in
    let outer = region_entries (outer_regions (known_in m) q p) in
    let members = map (λ (member : Member). (object_id member.object, member.object)) (members_of (known_in m) q p) in
    let named : option_map_or (λ (p : Package). p.name) (slice_get b.packages.now q) [] ≡ p.name =
    sym (viewed_name (slice_get b.packages.now q))
    ∙ ap (λ o. option_map_or (λ (p : PackageData). p.name) o []) (sym (slice_get-map package_view b.packages.now q) ∙ ap (λ list. slice_get list q) (sym packages_are) ∙ has.is.at) in
    (λ i. known_by_tables (named i) (option_map_or (λ (s : Scopes). s.names.entries) (has.at i) []) (option_map_or (λ (s : Scopes). s.objects.entries) (has.at i) []))
    ∙ (λ i. known_by_tables p.name (has.is.tables.names i) (has.is.tables.objects i))
    ∙ ap (λ entries. known_by_tables p.name (names_of (package_block q p)) (insert_all same_object [] entries)) (sym (append_assoc outer members (region_entries (package_block q p))))
    ∙ block_known p.name (outer ++ members) (package_block q p)
    ∙ sym (ap (λ o. option_map_or (λ (p : PackageData). known_by_tables p.name (names_of (package_block q p)) (objects_of (package_block q p))) o (known_by_tables [] [] [])) has.is.at)

-- so the package at a place of a module stands there, by the scopes of those before it
pub stands_in : (m : Module) (k : ℕ) (own : Package) (b : Before) → own ≡ get_or m.packages.items k own → b.packages.now ≡ m.packages.items → AreBefore (module_view m) k b.scopes.now → StandsIn (module_view m) k own b
stands_in m k own b own_is packages_are are =
    let inside : k < length m.packages.items = subst (λ (n : ℕ). k < n) (length-map m.packages.items package_view) are.within in
    let at : slice_get (module_view m).packages k ≡ Some (package_view own) =
    slice_get-map package_view m.packages.items k
    ∙ ap (option_map package_view) (slice_get-get_or m.packages.items k own inside)
    ∙ ap (λ p. Some (package_view p)) (sym own_is) in
    record { at = at; imported = λ q here. known_is (module_view m) b q (ap (map package_view) (sym packages_are)) (are.imported (package_view own) at q here) }
