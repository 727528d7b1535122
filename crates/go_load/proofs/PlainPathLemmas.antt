-- The paths of packages of a module that breaks no rule: they have no byte beyond ASCII.
use Rattle.std.proofs.Common.{◌≡◌, ℕ, ◌+◌, Bool, true, false, List, [], ◌∷◌, ◌++◌, Option, Some, None, map, refl, sym, ◌∙◌, subst, ⊎_elim}
use Rattle.std.specs.Prelude.{if◌then◌else◌}
use Rattle.std.specs.List.{Contains, cons_option, filter_map}
use Rattle.std.proofs.lemmas.Option.{cond_some}
use Rattle.std.proofs.lemmas.Str.{IsUtf8-from_ascii}
use Rattle.go_base.specs.declared.rule.Broken.{Broken}
use Rattle.go_tree.specs.Tree.{Tree}
use Rattle.go_module.specs.declared.places.Placed.{Placed}
use Rattle.go_module.specs.Broken.{broken_at}
use Rattle.go_module.specs.Modules.Texts.{SourceText, as_text}
use Rattle.go_module.specs.Modules.Heads.{FileHead}
use Rattle.go_load.specs.Loading.{TextsBreakFrom}
use Rattle.go_module.specs.Places.{placed_in}
use Rattle.go_module.specs.Modules.Module.{AreHeads}
use Rattle.go_mod.specs.ModuleLines as lines
use Rattle.go_mod.specs.ModulePath.{module_path}
use Rattle.go_mod.specs.ModuleRules.{declared_by, placed_at}
use Rattle.go_module.specs.Modules.PathParts.{folder_of_path, import_path_of, is_plain}
use Rattle.go_module.specs.Modules.Paths.{belongs, home, homes, import_path}
use Rattle.go_load.specs.Sources.{SourceBreaks, by_form, no_tree, special_file_path, too_long}
use Rattle.go_mod.proofs.AsciiLemmas.{Ascii, ascii_is, folder_ascii, import_ascii, module_ascii, plain_ascii}
use Rattle.go_module.proofs.MemberLemmas.{cons_cases, contains_head, contains_none}
use Rattle.go_module.proofs.NameLemmas.{text_stays}

pub ascii_text : (bytes : List ℕ) → Ascii bytes → as_text bytes ≡ bytes
ascii_text bytes a = text_stays bytes (IsUtf8-from_ascii bytes (ascii_is bytes a))

-- files that break nothing have plain paths

no_broken_path : (file : ℕ) (path : List ℕ) (others : List Broken) (b : Bool) → is_plain path ≡ b → ((x : Broken) → Contains ((if b then [] else broken_at file 0 special_file_path ∷ []) ++ others) x → ⊥) → is_plain path ≡ true
no_broken_path file path others true e none = e
no_broken_path file path others false e none = absurd (none (broken_at file 0 special_file_path) (contains_head (broken_at file 0 special_file_path) others (broken_at file 0 special_file_path) refl))

plain_source : (file first : ℕ) (path bytes : List ℕ) (list : List Broken) → SourceBreaks file first path bytes list → list ≡ [] → is_plain path ≡ true
plain_source file first path bytes _ (too_long lt) e = cc
plain_source file first path bytes _ (no_tree fault b le is told) e = cc
plain_source file first path bytes _ (by_form tree list le is breaks) e =
    no_broken_path file path _ (is_plain path) refl (λ x h. contains_none x (subst (λ (xs : List Broken). Contains xs x) e ((breaks.is_list.same x).1 h)))

no_parts : {X Y : Type 0} (f : X → Y) (xs : List X) (ys : List Y) → [] ≡ map f xs ++ ys → (xs ≡ []) × (ys ≡ [])
no_parts f [] ys e = (refl, sym e)
no_parts f (x ∷ xs) ys e = absurd (let clash : [] ≡ f x ∷ (map f xs ++ ys) = e in cc)

abbrev pub AllPlain : List FileHead → Type 0
AllPlain [] = Unit {0}
AllPlain (head ∷ heads) = Ascii head.path × AllPlain heads

pub all_plain : (number first next : ℕ) (texts : List SourceText) (trees : List Tree) (heads : List FileHead) (list : List Placed) → AreHeads texts trees heads → TextsBreakFrom number first texts next list → list ≡ [] → AllPlain heads
all_plain number first next (text ∷ texts) (tree ∷ trees) (head ∷ heads) list are breaks none =
    let parts = no_parts (placed_in text) breaks.0 breaks.1 (sym none ∙ breaks.6) in
    let plain = plain_ascii text.path (plain_source number first text.path text.bytes breaks.0 breaks.3 parts.0) in
    (subst Ascii (sym are.0.path_is) plain, all_plain (number + 1) breaks.2 next texts trees heads breaks.1 are.1 breaks.5 parts.1)
all_plain number first next (text ∷ texts) (tree ∷ trees) [] list are breaks none = tt
all_plain number first next (text ∷ texts) [] (head ∷ heads) list are breaks none = absurd are
all_plain number first next (text ∷ texts) [] [] list are breaks none = tt
all_plain number first next [] (tree ∷ trees) (head ∷ heads) list are breaks none = absurd are
all_plain number first next [] (tree ∷ trees) [] list are breaks none = tt
all_plain number first next [] [] (head ∷ heads) list are breaks none = absurd are
all_plain number first next [] [] [] list are breaks none = tt

-- the path of a good module line

line_by : (line : lines.LineText) (rest : List lines.LineText) (path : List ℕ) (o : Option (List ℕ)) → module_path line.text ≡ o → (Contains (map (λ l. l.text) rest) path → Ascii path) → Contains (map (λ l. l.text) (cons_option (placed_at line.offset o) rest)) path → Ascii path
line_by line rest path None e others h = others h
line_by line rest path (Some found) e others h =
    ⊎_elim
    (λ (same : found ≡ path). subst Ascii same (module_ascii line.text found e))
    (λ (has : Contains (map (λ l. l.text) rest) path). others has)
    (cons_cases found (map (λ l. l.text) rest) path h)

pub lines_ascii : (list : List lines.LineText) (path : List ℕ) → Contains (map (λ l. l.text) (filter_map (declared_by module_path) list)) path → Ascii path
lines_ascii [] path h = absurd (contains_none path h)
lines_ascii (line ∷ list) path h = line_by line (filter_map (declared_by module_path) list) path (module_path line.text) refl (λ has. lines_ascii list path has) h

-- the paths of packages

path_by : (m : List ℕ) (head : FileHead) (b : Bool) → Ascii m → Ascii head.path → Ascii (if b then folder_of_path head.path else import_path_of m (folder_of_path head.path))
path_by m head true a p = folder_ascii head.path p
path_by m head false a p = import_ascii m (folder_of_path head.path) a (folder_ascii head.path p)

home_ascii : (m : List ℕ) (own : List (List ℕ)) (head : FileHead) (path : List ℕ) → Ascii m → Ascii head.path → home m own head ≡ Some path → Ascii path
home_ascii m own head path a p e =
    subst Ascii (cond_some (belongs own head) (import_path m head) path e).1 (path_by m head head.stub a p)

pub homes_ascii : (m : List ℕ) (own : List (List ℕ)) (heads : List FileHead) (path : List ℕ) → Ascii m → AllPlain heads → Contains (homes m own heads) (Some path) → Ascii path
homes_ascii m own [] path a all h = absurd (contains_none (Some path) h)
homes_ascii m own (head ∷ heads) path a all h =
    ⊎_elim
    (λ (here : home m own head ≡ Some path). home_ascii m own head path a all.0 here)
    (λ (there : Contains (homes m own heads) (Some path)). homes_ascii m own heads path a all.1 there)
    (cons_cases (home m own head) (homes m own heads) (Some path) h)
