-- Bytes below 128, and the paths that have no others.
use Rattle.std.proofs.Common.{◌≡◌, ℕ, zero, suc, ◌<◌, Bool, true, false, not, cond, ◌==◌, ◌&&◌, ◌||◌, List, [], ◌∷◌, ◌++◌, ◌⊎◌, inl, inr, Some, length, take, refl, subst, ⊎_elim, arith}
use Rattle.std.specs.Prelude.{codes}
use Rattle.std.specs.Char.{is_ascii_alphanumeric}
use Rattle.std.specs.Int.{is_in_range}
use Rattle.std.specs.List.{list_all, list_any, onto_first, slice_split}
use Rattle.std.specs.Str.{IsAscii}
use Rattle.std.proofs.lemmas.Bool.Decides.{nat_tests}
use Rattle.std.proofs.lemmas.Option.{cond_some}
use Rattle.go_mod.specs.ModuleLines.{argument, first_word, is_text}
use Rattle.go_mod.specs.ModulePath.{is_element, is_path, is_path_byte, module_path, unquoted}
use Rattle.go_module.specs.Modules.PathParts.{folder_of_path, import_path_of, is_plain, is_plain_byte, is_slash}

abbrev pub Ascii : List ℕ → Type 0
Ascii [] = Unit {0}
Ascii (b ∷ bytes) = (b < 128) × Ascii bytes

ascii-append : (xs ys : List ℕ) → Ascii xs → Ascii ys → Ascii (xs ++ ys)
ascii-append [] ys a b = b
ascii-append (x ∷ xs) ys a b = (a.0, ascii-append xs ys a.1 b)

ascii-take : (n : ℕ) (xs : List ℕ) → Ascii xs → Ascii (take n xs)
ascii-take zero xs a = tt
ascii-take (suc n) [] a = tt
ascii-take (suc n) (x ∷ xs) a = (a.0, ascii-take n xs a.1)

pub ascii_is : (xs : List ℕ) → Ascii xs → IsAscii xs
ascii_is [] a i = (let lt : 0 < 128 = omega arith in lt)
ascii_is (x ∷ xs) a zero = a.0
ascii_is (x ∷ xs) a (suc i) = ascii_is xs a.1 i

-- tests of bytes

or_cases : (a b : Bool) → (a || b) ≡ true → (a ≡ true) ⊎ (b ≡ true)
or_cases true b e = inl refl
or_cases false b e = inr e

pub and_parts : (a b : Bool) → (a && b) ≡ true → (a ≡ true) × (b ≡ true)
and_parts true b e = (refl, e)
and_parts false b e = cc

range_small : (low high b : ℕ) → high < 128 → is_in_range low high b ≡ true → b < 128
range_small low high b lt e = grind (arith, nat_tests)

one_small : (mark b : ℕ) → mark < 128 → (mark == b) ≡ true → b < 128
one_small mark b lt e = grind (arith, nat_tests)

this_small : (b mark : ℕ) → mark < 128 → (b == mark) ≡ true → b < 128
this_small b mark lt e = grind (arith, nat_tests)

alphanumeric_small : (b : ℕ) → is_ascii_alphanumeric b ≡ true → b < 128
alphanumeric_small b e =
    ⊎_elim
    (λ (first : (is_in_range 48 57 b || is_in_range 65 90 b) ≡ true).
    ⊎_elim
    (λ (digit : is_in_range 48 57 b ≡ true). range_small 48 57 b (omega arith) digit)
    (λ (upper : is_in_range 65 90 b ≡ true). range_small 65 90 b (omega arith) upper)
    (or_cases (is_in_range 48 57 b) (is_in_range 65 90 b) first))
    (λ (lower : is_in_range 97 122 b ≡ true). range_small 97 122 b (omega arith) lower)
    (or_cases (is_in_range 48 57 b || is_in_range 65 90 b) (is_in_range 97 122 b) e)

marks_small : (marks : List ℕ) (b : ℕ) → Ascii marks → list_any (λ mark. mark == b) marks ≡ true → b < 128
marks_small [] b a e = cc
marks_small (m ∷ marks) b a e =
    ⊎_elim
    (λ (here : (m == b) ≡ true). one_small m b a.0 here)
    (λ (there : list_any (λ mark. mark == b) marks ≡ true). marks_small marks b a.1 there)
    (or_cases (m == b) (list_any (λ mark. mark == b) marks) e)

plain_marks : Ascii (codes "-._~+/")
plain_marks = (omega arith, (omega arith, (omega arith, (omega arith, (omega arith, (omega arith, tt))))))

plain_small : (b : ℕ) → is_plain_byte b ≡ true → b < 128
plain_small b e =
    ⊎_elim
    (λ (letter : is_ascii_alphanumeric b ≡ true). alphanumeric_small b letter)
    (λ (mark : list_any (λ mark. mark == b) (codes "-._~+/") ≡ true). marks_small (codes "-._~+/") b plain_marks mark)
    (or_cases (is_ascii_alphanumeric b) (list_any (λ mark. mark == b) (codes "-._~+/")) e)

path_small : (b : ℕ) → is_path_byte b ≡ true → b < 128
path_small b e =
    ⊎_elim
    (λ (letter : is_ascii_alphanumeric b ≡ true). alphanumeric_small b letter)
    (λ (mark : ((b == 45) || ((b == 46) || ((b == 95) || (b == 126)))) ≡ true).
    ⊎_elim
    (λ (t : (b == 45) ≡ true). this_small b 45 (omega arith) t)
    (λ (other : ((b == 46) || ((b == 95) || (b == 126))) ≡ true).
    ⊎_elim
    (λ (t : (b == 46) ≡ true). this_small b 46 (omega arith) t)
    (λ (last : ((b == 95) || (b == 126)) ≡ true).
    ⊎_elim
    (λ (t : (b == 95) ≡ true). this_small b 95 (omega arith) t)
    (λ (t : (b == 126) ≡ true). this_small b 126 (omega arith) t)
    (or_cases (b == 95) (b == 126) last))
    (or_cases (b == 46) ((b == 95) || (b == 126)) other))
    (or_cases (b == 45) ((b == 46) || ((b == 95) || (b == 126))) mark))
    (or_cases (is_ascii_alphanumeric b) ((b == 45) || ((b == 46) || ((b == 95) || (b == 126)))) e)

all_small : (test : ℕ → Bool) → ((b : ℕ) → test b ≡ true → b < 128) → (xs : List ℕ) → list_all test xs ≡ true → Ascii xs
all_small test small [] e = tt
all_small test small (x ∷ xs) e =
    let parts = and_parts (test x) (list_all test xs) e in
    (small x parts.0, all_small test small xs parts.1)

-- a plain path
pub plain_ascii : (path : List ℕ) → is_plain path ≡ true → Ascii path
plain_ascii path e = all_small is_plain_byte plain_small path e

-- the path of a module

abbrev AllAscii : List (List ℕ) → Type 0
AllAscii [] = Unit {0}
AllAscii (part ∷ parts) = Ascii part × AllAscii parts

elements_ascii : (parts : List (List ℕ)) → list_all is_element parts ≡ true → AllAscii parts
elements_ascii [] e = tt
elements_ascii (part ∷ parts) e =
    let two = and_parts (is_element part) (list_all is_element parts) e in
    let inside = and_parts (not (length part == 0)) (list_all is_path_byte part) two.0 in
    (all_small is_path_byte path_small part inside.1, elements_ascii parts two.1)

onto_ascii : (x : ℕ) (parts : List (List ℕ)) → AllAscii (onto_first x parts) → (x < 128) × AllAscii parts
onto_ascii x [] a = (a.0.0, tt)
onto_ascii x (part ∷ parts) a = (a.0.0, (a.0.1, a.1))

joined-by : (x : ℕ) (xs : List ℕ) (b : Bool) → is_slash x ≡ b → (AllAscii (slice_split is_slash xs) → Ascii xs) → AllAscii (cond b ([] ∷ slice_split is_slash xs) (onto_first x (slice_split is_slash xs))) → Ascii (x ∷ xs)
joined-by x xs true e rest a = (this_small x 47 (omega arith) e, rest a.1)
joined-by x xs false e rest a = let two = onto_ascii x (slice_split is_slash xs) a in (two.0, rest two.1)

joined_ascii : (xs : List ℕ) → AllAscii (slice_split is_slash xs) → Ascii xs
joined_ascii [] a = tt
joined_ascii (x ∷ xs) a = joined-by x xs (is_slash x) refl (λ b. joined_ascii xs b) a

path_ascii : (path : List ℕ) → is_path path ≡ true → Ascii path
path_ascii path e = joined_ascii path (elements_ascii (slice_split is_slash path) e)

pub module_ascii : (line path : List ℕ) → module_path line ≡ Some path → Ascii path
module_ascii line path e =
    let two = cond_some (is_text (first_word line) (codes "module") && is_path (unquoted (argument line))) (unquoted (argument line)) path e in
    let good = and_parts (is_text (first_word line) (codes "module")) (is_path (unquoted (argument line))) two.0 in
    subst Ascii two.1 (path_ascii (unquoted (argument line)) good.1)

-- the path of a folder

pub folder_ascii : (path : List ℕ) → Ascii path → Ascii (folder_of_path path)
folder_ascii path a = ascii-take _ path a

pub import_ascii : (module_path folder : List ℕ) → Ascii module_path → Ascii folder → Ascii (import_path_of module_path folder)
import_ascii module_path [] a b = a
import_ascii module_path (x ∷ folder) a b = ascii-append module_path (47 ∷ x ∷ folder) a ((let lt : 47 < 128 = omega arith in lt), b)
