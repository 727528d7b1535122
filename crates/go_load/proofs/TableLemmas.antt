-- The table of packages.
use Rattle.std.proofs.Common.{◌≡◌, ℕ, zero, suc, ◌<◌, Bool, true, false, not, cond, ◌&&◌, ◌||◌, ◌==◌, List, [], ◌∷◌, Option, Some, None, ⊎_elim, length, map, refl, ap, ◌∙◌, subst, nat_lt, arith}
use Rattle.std.specs.Prelude.{◌↔◌, position, if◌then◌else◌}
use Rattle.std.specs.List.{Contains, cons_option, position_or_len}
use Rattle.std.proofs.lemmas.Bool.Decides.{nat_tests}
use Rattle.std.proofs.lemmas.List.{length-map}
use Rattle.go_module.specs.Modules.Heads.{FileHead, ImportSpec}
use Rattle.go_module.specs.Modules.PathParts.{folder_of_path}
use Rattle.go_module.specs.Modules.Paths.{same_text, own_paths, has_path, import_path, home, homes}
use Rattle.go_graph.specs.Graph.{is_marked, IsGraph, row_at}
use Rattle.go_module.specs.Modules.Packages.{visible, named, all_named, imports_in, imports_of, files_of, IsPathList, IsTableOf, Reached}
use Rattle.go_load.specs.Packages.PathSets.{imports_by}
use Rattle.go_module.proofs.MemberLemmas.{cons_cases, contains_none}

-- the imports by flags and files that are given for each path
pub imports_given : (paths : List (List ℕ)) (stubs : List Bool) (heads : List FileHead) (f : List ℕ → Bool) (g : List ℕ → List ℕ) (xs : List (List ℕ)) → imports_by paths stubs heads (map f xs) (map g xs) ≡ map (λ path. imports_of paths stubs heads (f path) (g path)) xs
imports_given paths stubs heads f g [] = refl
imports_given paths stubs heads f g (x ∷ xs) = ap (λ rows. imports_of paths stubs heads (f x) (g x) ∷ rows) (imports_given paths stubs heads f g xs)

-- what is named is a package

found_within : (n len k : ℕ) (b : Bool) → nat_lt n len ≡ b → cond b (Some n) None ≡ Some k → k < len
found_within n len k true e at = let same : n ≡ k = cc in grind (arith, nat_tests)
found_within n len k false e at = absurd (cc at)

seen : (stubs : List Bool) (from_stub : Bool) (n k : ℕ) (b : Bool) → cond b None (Some n) ≡ Some k → Some n ≡ Some k
seen stubs from_stub n k true e = absurd (cc e)
seen stubs from_stub n k false e = e

visible_is : (stubs : List Bool) (from_stub : Bool) (place : Option ℕ) (k : ℕ) → visible stubs from_stub place ≡ Some k → place ≡ Some k
visible_is stubs from_stub None k e = e
visible_is stubs from_stub (Some n) k e = seen stubs from_stub n k (from_stub && not (is_marked stubs n)) e

module _ (paths : List (List ℕ)) (stubs : List Bool) (from_stub : Bool) where
  named_within : (path : List ℕ) (k : ℕ) → named paths stubs from_stub path ≡ Some k → k < length paths
  named_within path k e =
      let at = visible_is stubs from_stub (position (same_text path) paths) k e in
      found_within (position_or_len (same_text path) paths) (length paths) k (nat_lt (position_or_len (same_text path) paths) (length paths)) refl at

  cons_within : (o : Option ℕ) (rest : List ℕ) → ((k : ℕ) → o ≡ Some k → k < length paths) → ((k : ℕ) → Contains rest k → k < length paths) → (k : ℕ) → Contains (cons_option o rest) k → k < length paths
  cons_within None rest here others k h = others k h
  cons_within (Some n) rest here others k h = ⊎_elim (λ (same : n ≡ k). here k (ap Some same)) (λ (has : Contains rest k). others k has) (cons_cases n rest k h)

  all_within : (specs : List ImportSpec) (k : ℕ) → Contains (all_named paths stubs from_stub specs) k → k < length paths
  all_within [] k h = absurd (contains_none k h)
  all_within (s ∷ specs) k h = cons_within (named paths stubs from_stub s.path) (all_named paths stubs from_stub specs) (λ n e. named_within s.path n e) (all_within specs) k h

module _ (paths : List (List ℕ)) (stubs : List Bool) (heads : List FileHead) (f : List ℕ → Bool) (g : List ℕ → List ℕ) where
  row_inside : (xs : List (List ℕ)) (a b : ℕ) → Contains (row_at (map (λ path. imports_of paths stubs heads (f path) (g path)) xs) a) b → b < length paths
  row_inside [] a b has = absurd (contains_none b has)
  row_inside (x ∷ xs) zero b has = all_within paths stubs (f x) (imports_in heads (g x)) b has
  row_inside (x ∷ xs) (suc a) b has = row_inside xs a b has

  -- what the imports of packages name are packages
  pub imports_graph : (rows : List (List ℕ)) → rows ≡ map (λ path. imports_of paths stubs heads (f path) (g path)) paths → IsGraph rows
  imports_graph rows e = λ a b leads.
      let lt = row_inside paths a b (subst (λ (rs : List (List ℕ)). Contains (row_at rs a) b) e leads) in
      let same : length rows ≡ length paths = ap length e ∙ length-map paths (λ path. imports_of paths stubs heads (f path) (g path)) in
      omega arith

-- the homes depend on which paths the module has, and on nothing else of them

module _ (module_path : List ℕ) (some other : List (List ℕ)) (alike : (path : List ℕ) → has_path some path ≡ has_path other path) where
  home-alike : (head : FileHead) → home module_path some head ≡ home module_path other head
  home-alike head = ap (λ there. if not (head.stub && (length (folder_of_path head.path) == 0 || there)) then Some (import_path module_path head) else None) (alike (folder_of_path head.path))

  pub homes-alike : (heads : List FileHead) → homes module_path some heads ≡ homes module_path other heads
  homes-alike [] = refl
  homes-alike (h ∷ heads) = ap (λ x. x ∷ homes module_path some heads) (home-alike h) ∙ ap (λ xs. home module_path other h ∷ xs) (homes-alike heads)

-- what the imports of all packages name, by their paths
pub columns_imports : (places paths : List (List ℕ)) (stubs read_stubs : List Bool) (heads : List FileHead) (files read_files imports : List (List ℕ)) (f : List ℕ → Bool) (g : List ℕ → List ℕ) → places ≡ paths → stubs ≡ map f paths → read_stubs ≡ stubs → files ≡ map g places → read_files ≡ files → imports ≡ imports_by places read_stubs heads read_stubs read_files → imports ≡ map (λ path. imports_of paths stubs heads (f path) (g path)) paths
columns_imports places paths stubs read_stubs heads files read_files imports f g same flags read_flags rows read_rows now =
    now
    ∙ ap (λ p. imports_by p read_stubs heads read_stubs read_files) same
    ∙ ap (λ (s : List Bool). imports_by paths s heads s read_files) read_flags
    ∙ ap (λ (s : List Bool). imports_by paths stubs heads s read_files) flags
    ∙ ap (imports_by paths stubs heads (map f paths)) (read_rows ∙ rows ∙ ap (map g) same)
    ∙ imports_given paths stubs heads f g paths

module _ (module_path : List ℕ) (heads : List FileHead) (own : List (List ℕ)) (alike : (path : List ℕ) → has_path own path ≡ has_path (own_paths module_path heads) path) where
  same_test : has_path own ≡ has_path (own_paths module_path heads)
  same_test = λ i. λ path. alike path i

  pub table_of : (found listed read : List (Option (List ℕ))) (paths read_paths : List (List ℕ)) (stubs : List Bool) (files imports : List (List ℕ)) (reached : List Bool)
      → found ≡ homes module_path own heads → listed ≡ found → read ≡ found → read_paths ≡ paths
      → IsPathList listed paths
      → stubs ≡ map (λ path. not (has_path own path)) read_paths
      → files ≡ map (files_of read) read_paths
      → imports ≡ map (λ path. imports_of read_paths stubs heads (not (has_path own path)) (files_of read path)) read_paths
      → length reached ≡ length read_paths
      → ((k : ℕ) → (is_marked reached k ≡ true) ↔ Reached stubs imports k)
      → IsTableOf module_path heads (record { paths = paths; stubs = stubs; files = files; imports = imports; reached = reached })
  table_of found listed read paths read_paths stubs files imports reached is is_listed is_read same list flags rows names len exact =
      let known : found ≡ homes module_path (own_paths module_path heads) heads = is ∙ homes-alike module_path own (own_paths module_path heads) alike heads in
      let seen_homes : read ≡ homes module_path (own_paths module_path heads) heads = is_read ∙ known in
      record {
        paths = subst (λ (hs : List (Option (List ℕ))). IsPathList hs paths) (is_listed ∙ known) list;
        stubs = flags ∙ (λ i. map (λ path. not (same_test i path)) (same i));
        files = rows ∙ (λ i. map (files_of (seen_homes i)) (same i));
        imports = names ∙ (λ i. map (λ path. imports_of (same i) stubs heads (not (same_test i path)) (files_of (seen_homes i) path)) (same i));
        reached_length = len ∙ ap length same;
        reached = exact;
      }
