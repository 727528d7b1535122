-- Imports on cycles: what a walk over files and marks tells is what they break.
use Rattle.std.proofs.Common.{◌≡◌, ℕ, zero, suc, ◌+◌, ◌<◌, ◌≤◌, Bool, true, false, List, [], ◌∷◌, ◌++◌, Option, Some, None, length, map, get_or, drop, refl, sym, ap, ◌∙◌, subst, ⊎_elim, append_assoc, arith}
use Rattle.std.specs.Prelude.{◌↔◌, unwrap_or, if◌then◌else◌}
use Rattle.std.specs.Option.{is_some}
use Rattle.std.specs.List.{Contains, cons_option, flat_map, range_with_len}
use Rattle.std.proofs.lemmas.Bool.{cases_eq}
use Rattle.std.proofs.lemmas.List.{append-nil, map-append, drop_all}
use Rattle.std.proofs.lemmas.List.Elements.{Contains-append_left, Contains-append_right, Contains-append_cases}
use Rattle.go_base.specs.declared.rule.Broken.{Broken}
use Rattle.go_module.specs.Broken.{broken_at, told_if}
use Rattle.go_module.specs.Modules.BrokenImports.{cyclic_import, broken_imports_in, IsCyclicImport, AreBrokenPackages}
use Rattle.go_module.specs.Order.{IsListOf}
use Rattle.go_module.specs.Modules.Heads.{FileHead, ImportSpec}
use Rattle.go_graph.specs.Cycles.{MarksCycles, MarksEach, OnCycle}
use Rattle.go_module.specs.Modules.Packages.{PackageTable, IsTableOf, named, all_named, imports_at, imports_in, imports_of}
use Rattle.go_graph.specs.Graph.{is_marked, row_at}
use Rattle.go_load.specs.Packages.CyclicImports.{named_import, named_imports_at, named_imports_in, with_marks, cyclic_if_reached, cyclic_in}
use Rattle.go_module.proofs.MemberLemmas.{cons_cases, contains_head, contains_none, contains_tail}
use Rattle.go_load.proofs.NamedLemmas.{all_named-append}
use Rattle.go_load.proofs.TableGraphLemmas.{table_row, imports_length}

-- members of lists that were joined, and of ranges

in_joined : {X Y : Type 0} (f : X → List Y) (xs : List X) (y : Y) → Contains (flat_map f xs) y → (x : X) × Contains xs x × Contains (f x) y
in_joined f [] y h = absurd (contains_none y h)
in_joined {X} {Y} f (x ∷ xs) y h = ⊎_elim
    (λ (here : Contains (f x) y). (x, contains_head x xs x refl, here))
    (λ (there : Contains (flat_map f xs) y). let rest = in_joined f xs y there in (rest.0, contains_tail x xs rest.0 rest.1, rest.2))
    (Contains-append_cases (f x) (flat_map f xs) y h)

to_joined : {X Y : Type 0} (f : X → List Y) (xs : List X) (x : X) (y : Y) → Contains xs x → Contains (f x) y → Contains (flat_map f xs) y
to_joined f [] x y has h = absurd (contains_none x has)
to_joined f (z ∷ xs) x y has h = ⊎_elim
    (λ (same : z ≡ x). Contains-append_left (f z) (flat_map f xs) y (subst (λ w. Contains (f w) y) (sym same) h))
    (λ (there : Contains xs x). Contains-append_right (f z) (flat_map f xs) y (to_joined f xs x y there h))
    (cons_cases z xs x has)

in_range : (a n k : ℕ) → Contains (range_with_len a n) k → k < a + n
in_range a zero k h = absurd (contains_none k h)
in_range a (suc n) k h = ⊎_elim
    (λ (here : a ≡ k). omega arith)
    (λ (there : Contains (range_with_len (a + 1) n) k). let lt = in_range (a + 1) n k there in omega arith)
    (cons_cases a (range_with_len (a + 1) n) k h)

to_range : (a n k : ℕ) → a ≤ k → k < a + n → Contains (range_with_len a n) k
to_range a zero k le lt = absurd (omega arith)
to_range a (suc n) k le lt = ⊎_elim
    (λ (here : a ≡ k). contains_head a (range_with_len (a + 1) n) k here)
    (λ (ne : a ≡ k → ⊥). contains_tail a (range_with_len (a + 1) n) k (to_range (a + 1) n k (omega arith) (omega arith)))
    (cases_eq a k)

map-joined : {X Y Z : Type 0} (h : Y → Z) (f : X → List Y) (xs : List X) → map h (flat_map f xs) ≡ flat_map (λ x. map h (f x)) xs
map-joined h f [] = refl
map-joined h f (x ∷ xs) = map-append h (f x) (flat_map f xs) ∙ ap (λ ys. map h (f x) ++ ys) (map-joined h f xs)

joined-alike : {X Y : Type 0} (f g : X → List Y) → ((x : X) → f x ≡ g x) → (xs : List X) → flat_map f xs ≡ flat_map g xs
joined-alike f g same [] = refl
joined-alike f g same (x ∷ xs) = ap (λ ys. ys ++ flat_map f xs) (same x) ∙ ap (λ ys. g x ++ ys) (joined-alike f g same xs)

in_told : (holds : Bool) (x b : Broken) → Contains (told_if holds x) b → (holds ≡ true) × (x ≡ b)
in_told true x b h = ⊎_elim (λ (same : x ≡ b). (refl, same)) (λ (none : Contains [] b). absurd (contains_none b none)) (cons_cases x [] b h)
in_told false x b h = absurd (contains_none b h)

to_told : (holds : Bool) (x : Broken) → holds ≡ true → Contains (told_if holds x) x
to_told true x e = contains_head x [] x refl
to_told false x e = absurd (cc e)

-- each import that names a package, with that package

record Naming : Type 0 where
  place : ℕ
  broken : Broken

abbrev place_of : Naming → ℕ
place_of n = n.place

abbrev broken_of : Naming → Broken
broken_of n = n.broken

abbrev naming : ℕ → ImportSpec → Option ℕ → List Naming
naming file spec None = []
naming file spec (Some k) = record { place = k; broken = broken_at file spec.at cyclic_import } ∷ []

naming_told : (file : ℕ) (spec : ImportSpec) (o : Option ℕ) → map broken_of (naming file spec o) ≡ told_if (is_some o) (broken_at file spec.at cyclic_import)
naming_told file spec None = refl
naming_told file spec (Some k) = refl

naming_package : (file : ℕ) (spec : ImportSpec) (o : Option ℕ) (ns : List Naming) (rest : List ℕ) → rest ≡ map place_of ns → cons_option o rest ≡ map place_of (naming file spec o ++ ns)
naming_package file spec None ns rest e = e
naming_package file spec (Some k) ns rest e = ap (λ (xs : List ℕ). k ∷ xs) e

in_naming : (file : ℕ) (spec : ImportSpec) (o : Option ℕ) (n : Naming) → Contains (naming file spec o) n → (o ≡ Some n.place) × (n.broken ≡ broken_at file spec.at cyclic_import)
in_naming file spec None n h = absurd (contains_none n h)
in_naming file spec (Some k) n h =
    let one : Naming = record { place = k; broken = broken_at file spec.at cyclic_import } in
    ⊎_elim
    (λ (same : one ≡ n). (ap (λ (m : Naming). Some m.place) same, sym (ap broken_of same)))
    (λ (none : Contains [] n). absurd (contains_none n none))
    (cons_cases one [] n h)

to_naming : (file : ℕ) (spec : ImportSpec) (o : Option ℕ) (k : ℕ) → o ≡ Some k → Contains (naming file spec o) (record { place = k; broken = broken_at file spec.at cyclic_import })
to_naming file spec o k e =
    let one : Naming = record { place = k; broken = broken_at file spec.at cyclic_import } in
    subst (λ (p : Option ℕ). Contains (naming file spec p) one) (sym e) (contains_head one [] one refl)

module _ (paths : List (List ℕ)) (stubs : List Bool) (heads : List FileHead) (from_stub : Bool) where
  abbrev naming_of : ℕ → ImportSpec → List Naming
  naming_of file spec = naming file spec (named paths stubs from_stub spec.path)

  abbrev namings_at : ℕ → List Naming
  namings_at file = flat_map (naming_of file) (imports_at heads file)

  abbrev namings : List ℕ → List Naming
  namings files = flat_map namings_at files

  packages_at : (file : ℕ) (specs : List ImportSpec) → all_named paths stubs from_stub specs ≡ map place_of (flat_map (naming_of file) specs)
  packages_at file [] = refl
  packages_at file (s ∷ specs) = naming_package file s (named paths stubs from_stub s.path) (flat_map (naming_of file) specs) (all_named paths stubs from_stub specs) (packages_at file specs)

  -- their packages are what the imports name
  packages_in : (files : List ℕ) → imports_of paths stubs heads from_stub files ≡ map place_of (namings files)
  packages_in [] = refl
  packages_in (file ∷ files) =
      all_named-append paths stubs from_stub (imports_at heads file) (imports_in heads files)
      ∙ ap (λ (xs : List ℕ). xs ++ imports_of paths stubs heads from_stub files) (packages_at file (imports_at heads file))
      ∙ ap (λ (xs : List ℕ). map place_of (namings_at file) ++ xs) (packages_in files)
      ∙ sym (map-append place_of (namings_at file) (namings files))

  -- what is told of them
  told_in : (files : List ℕ) → map broken_of (namings files) ≡ named_imports_in paths stubs heads from_stub files
  told_in files =
      map-joined broken_of namings_at files
      ∙ joined-alike (λ file. map broken_of (namings_at file)) (named_imports_at paths stubs heads from_stub)
      (λ file.
      map-joined broken_of (naming_of file) (imports_at heads file)
      ∙ joined-alike (λ spec. map broken_of (naming_of file spec)) (named_import paths stubs from_stub file)
      (λ spec. naming_told file spec (named paths stubs from_stub spec.path))
      (imports_at heads file))
      files

-- what stays by marks

module _ (P : ℕ → Type 0) where
  first_mark : (k : ℕ) (row : List ℕ) (mark : Bool) (marks : List Bool) → MarksEach P (k ∷ row) (mark ∷ marks) → (mark ≡ true) ↔ P k
  first_mark k row mark marks m = m.exact zero (omega arith)

  rest_marks : (k : ℕ) (row : List ℕ) (mark : Bool) (marks : List Bool) → MarksEach P (k ∷ row) (mark ∷ marks) → MarksEach P row marks
  rest_marks k row mark marks m = record {
    same_length = (let e = m.same_length in omega (arith, e));
    exact = λ i lt. m.exact (suc i) (omega (arith, lt));
  }

  in_marks : (ns : List Naming) (marks : List Bool) → MarksEach P (map place_of ns) marks → (b : Broken) → Contains (with_marks (map broken_of ns) marks) b → (n : Naming) × Contains ns n × P n.place × (n.broken ≡ b)
  in_marks [] marks m b h = absurd (contains_none b h)
  in_marks (n ∷ ns) [] m b h = absurd (contains_none b h)
  in_marks (n ∷ ns) (mark ∷ marks) m b h = ⊎_elim
      (λ (here : Contains (told_if mark n.broken) b).
      let told = in_told mark n.broken b here in
      (n, contains_head n ns n refl, (first_mark n.place (map place_of ns) mark marks m).0 told.0, told.1))
      (λ (there : Contains (with_marks (map broken_of ns) marks) b).
      let rest = in_marks ns marks (rest_marks n.place (map place_of ns) mark marks m) b there in
      (rest.0, contains_tail n ns rest.0 rest.1, rest.2, rest.3))
      (Contains-append_cases (told_if mark n.broken) (with_marks (map broken_of ns) marks) b h)

  to_marks : (ns : List Naming) (marks : List Bool) → MarksEach P (map place_of ns) marks → (n : Naming) → Contains ns n → P n.place → Contains (with_marks (map broken_of ns) marks) n.broken
  to_marks [] marks m n has holds = absurd (contains_none n has)
  to_marks (x ∷ ns) [] m n has holds = absurd (let e = m.same_length in omega (arith, e))
  to_marks (x ∷ ns) (mark ∷ marks) m n has holds = ⊎_elim
      (λ (same : x ≡ n).
      let set : mark ≡ true = (first_mark x.place (map place_of ns) mark marks m).1 (subst (λ (y : Naming). P y.place) (sym same) holds) in
      Contains-append_left (told_if mark x.broken) (with_marks (map broken_of ns) marks) n.broken
      (subst (λ (y : Naming). Contains (told_if mark x.broken) y.broken) same (to_told mark x.broken set)))
      (λ (there : Contains ns n).
      Contains-append_right (told_if mark x.broken) (with_marks (map broken_of ns) marks) n.broken
      (to_marks ns marks (rest_marks x.place (map place_of ns) mark marks m) n there holds))
      (cons_cases x ns n has)

-- the imports of reached packages that lie on a cycle

in_reached : (reached : Bool) (list : List Broken) (b : Broken) → Contains (if reached then list else []) b → (reached ≡ true) × Contains list b
in_reached true list b h = (refl, h)
in_reached false list b h = absurd (contains_none b h)

to_reached : (reached : Bool) (list : List Broken) (b : Broken) → reached ≡ true → Contains list b → Contains (if reached then list else []) b
to_reached true list b e h = h
to_reached false list b e h = absurd (cc e)

marked_within : (marks : List Bool) (k : ℕ) → is_marked marks k ≡ true → k < length marks
marked_within [] k e = absurd (cc e)
marked_within (m ∷ marks) zero e = omega arith
marked_within (m ∷ marks) (suc k) e = let lt = marked_within marks k e in omega (arith, lt)

module _ (module_path : List ℕ) (heads : List FileHead) (t : PackageTable) (rows : List (List Bool)) (table : IsTableOf module_path heads t) (marks : MarksCycles t.imports rows) where
  abbrev namings_by : ℕ → List Naming
  namings_by k = namings t.paths t.stubs heads (is_marked t.stubs k) (row_at t.files k)

  -- the marks of a package tell which of its imports lie on a cycle
  row_marks : (k : ℕ) → k < length t.paths → MarksEach (OnCycle t.imports k) (map place_of (namings_by k)) (row_at rows k)
  row_marks k lt =
      let within : k < length t.imports = omega (arith, lt, imports_length module_path heads t table) in
      let row : row_at t.imports k ≡ imports_of t.paths t.stubs heads (is_marked t.stubs k) (row_at t.files k) = ap (λ (o : Option (List ℕ)). unwrap_or o []) (table_row module_path heads t table k lt) in
      subst (λ (r : List ℕ). MarksEach (OnCycle t.imports k) r (row_at rows k)) (packages_in t.paths t.stubs heads (is_marked t.stubs k) (row_at t.files k))
      (subst (λ (r : List ℕ). MarksEach (OnCycle t.imports k) r (row_at rows k)) row (marks.each k within))

  is_cyclic : (b : Broken) → Contains (cyclic_in heads t rows) b → IsCyclicImport heads t b
  is_cyclic b h =
      let of_package = in_joined (cyclic_if_reached heads t rows) (range_with_len 0 (length t.paths)) b h in
      let k = of_package.0 in
      let from_stub = is_marked t.stubs k in
      let files = row_at t.files k in
      let below = in_range 0 (length t.paths) k of_package.1 in
      let list = with_marks (named_imports_in t.paths t.stubs heads from_stub files) (row_at rows k) in
      let told = in_reached (is_marked t.reached k) list b of_package.2 in
      let of_marks = in_marks (OnCycle t.imports k) (namings_by k) (row_at rows k) (row_marks k (omega (arith, below))) b
      (subst (λ (l : List Broken). Contains (with_marks l (row_at rows k)) b) (sym (told_in t.paths t.stubs heads from_stub files)) told.1) in
      let n = of_marks.0 in
      let of_file = in_joined (namings_at t.paths t.stubs heads from_stub) files n of_marks.1 in
      let file = of_file.0 in
      let of_import = in_joined (naming_of t.paths t.stubs heads from_stub file) (imports_at heads file) n of_file.2 in
      let spec = of_import.0 in
      let names = in_naming file spec (named t.paths t.stubs from_stub spec.path) n of_import.2 in
      record {
        importer = k;
        reached = told.0;
        file = file;
        has_file = of_file.1;
        spec = spec;
        has_import = of_import.1;
        imported = n.place;
        names = names.0;
        cycle = of_marks.2;
        broken_is = ◌∙◌ {c = broken_at file spec.at cyclic_import} (sym of_marks.3) names.1;
      }

  has_cyclic : (b : Broken) → IsCyclicImport heads t b → Contains (cyclic_in heads t rows) b
  has_cyclic b c =
      let k = c.importer in
      let from_stub = is_marked t.stubs k in
      let files = row_at t.files k in
      let n : Naming = record { place = c.imported; broken = broken_at c.file c.spec.at cyclic_import } in
      let below = marked_within t.reached k c.reached in
      let lt : k < length t.paths = omega (arith, below, table.reached_length) in
      let one = to_naming c.file c.spec (named t.paths t.stubs from_stub c.spec.path) c.imported c.names in
      let of_file = to_joined (naming_of t.paths t.stubs heads from_stub c.file) (imports_at heads c.file) c.spec n c.has_import one in
      let of_package = to_joined (namings_at t.paths t.stubs heads from_stub) files c.file n c.has_file of_file in
      let told = to_marks (OnCycle t.imports k) (namings_by k) (row_at rows k) (row_marks k lt) n of_package c.cycle in
      let list = with_marks (named_imports_in t.paths t.stubs heads from_stub files) (row_at rows k) in
      let in_list : Contains list n.broken = subst (λ (l : List Broken). Contains (with_marks l (row_at rows k)) n.broken) (told_in t.paths t.stubs heads from_stub files) told in
      subst (Contains (cyclic_in heads t rows)) (sym c.broken_is)
      (to_joined (cyclic_if_reached heads t rows) (range_with_len 0 (length t.paths)) k n.broken
      (to_range 0 (length t.paths) k (omega arith) (omega (arith, lt)))
      (to_reached (is_marked t.reached k) list n.broken c.reached in_list))

  -- the list of a report of all that was told
  pub packages_told : (list : List Broken) → IsListOf (broken_imports_in heads t ++ cyclic_in heads t rows) list → AreBrokenPackages heads t list
  packages_told list is_list = record {
    cyclic = cyclic_in heads t rows;
    are_cyclic = λ b. (is_cyclic b, has_cyclic b);
    is_list = is_list;
  }

-- what a package breaks by imports on cycles, if it is reached
pub package_marked : (heads : List FileHead) (t : PackageTable) (rows : List (List Bool)) (k : ℕ) (paths : List (List ℕ)) (stubs : List Bool) (from_stub : Bool) (files : List ℕ) (list : List Broken) (marks : List Bool) (old new : List Broken) → is_marked t.reached k ≡ true → paths ≡ t.paths → stubs ≡ t.stubs → from_stub ≡ is_marked t.stubs k → files ≡ row_at t.files k → list ≡ named_imports_in paths stubs heads from_stub files → marks ≡ row_at rows k → new ≡ old ++ with_marks list marks → new ≡ old ++ cyclic_if_reached heads t rows k
package_marked heads t rows k paths stubs from_stub files list marks old new reached p s f row told marked now =
    now
    ∙ ap (λ (x : List Broken). old ++ x) (
    (λ i. with_marks (told i) (marked i))
    ∙ (λ i. with_marks (named_imports_in (p i) (s i) heads (f i) (row i)) (row_at rows k))
    ∙ ap (λ b. if b then with_marks (named_imports_in t.paths t.stubs heads (is_marked t.stubs k) (row_at t.files k)) (row_at rows k) else []) (sym reached))

-- the walk over imports and marks

with_none : (list : List Broken) → [] ≡ with_marks list []
with_none [] = refl
with_none (x ∷ list) = refl

pub marks_step : (list : List Broken) (marks : List Bool) (k : ℕ) (b : Broken) → k < length list → with_marks (drop k list) (drop k marks) ≡ told_if (is_marked marks k) (get_or list k b) ++ with_marks (drop (suc k) list) (drop (suc k) marks)
marks_step [] marks k b lt = absurd (omega arith)
marks_step (x ∷ list) [] zero b lt = with_none list
marks_step (x ∷ list) [] (suc k) b lt = sym (with_none (drop k list)) ∙ with_none (drop (suc k) list)
marks_step (x ∷ list) (mark ∷ marks) zero b lt = refl
marks_step (x ∷ list) (mark ∷ marks) (suc k) b lt = marks_step list marks k b (omega arith)

-- one more import
pub marked_more : (list : List Broken) (marks : List Bool) (k : ℕ) (d : Broken) (set : Bool) (whole old new : List Broken) → k < length list → set ≡ is_marked marks k → old ++ with_marks (drop k list) (drop k marks) ≡ whole → new ≡ old ++ told_if set (get_or list k d) → new ++ with_marks (drop (k + 1) list) (drop (k + 1) marks) ≡ whole
marked_more list marks k d set whole old new lt is so_far now =
    let one : k + 1 ≡ suc k = omega arith in
    let rest : ℕ → List Broken = λ n. with_marks (drop n list) (drop n marks) in
    ap (λ (xs : List Broken). xs ++ rest (k + 1)) now
    ∙ append_assoc old (told_if set (get_or list k d)) (rest (k + 1))
    ∙ ap (λ n. old ++ (told_if set (get_or list k d) ++ rest n)) one
    ∙ ap (λ b. old ++ (told_if b (get_or list k d) ++ rest (suc k))) is
    ∙ ap (λ (xs : List Broken). old ++ xs) (sym (marks_step list marks k d lt))
    ∙ so_far

-- all imports
pub marked_all : (list : List Broken) (marks : List Bool) (k : ℕ) (whole found : List Broken) → length list ≤ k → found ++ with_marks (drop k list) (drop k marks) ≡ whole → found ≡ whole
marked_all list marks k whole found le so_far =
    sym (append-nil found)
    ∙ ap (λ (xs : List Broken). found ++ with_marks xs (drop k marks)) (sym (drop_all k list le))
    ∙ so_far
