-- Where no name is declared twice in a block, a name that is declared denotes what one region has.
use Rattle.std.proofs.Common.{◌≡◌, ℕ, Bool, true, false, cond, Some, None, List, [], ◌∷◌, ◌⊎◌, inl, inr, Contains, refl, sym, ap, ◌∙◌}
use Rattle.std.specs.Prelude.{◌||◌, find, if◌then◌else◌, slice_get}
use Rattle.std.specs.List.{list_any}
use Rattle.std.proofs.lemmas.Slice.Eq.{bytes_eq-Decides}
use Rattle.go_module.specs.Broken.{broken_at}
use Rattle.go_module.specs.declared.block.Occurrence.{Occurrence}
use Rattle.go_module.specs.declared.block.Region.{Region}
use Rattle.go_module.specs.Modules.Module.{PackageData}
use Rattle.go_module.specs.Modules.Paths.{same_text}
use Rattle.go_module.specs.Names.Imports.{Importing, PackageNames, file_block, imports_of}
use Rattle.go_module.specs.Names.PackageBlock.{package_block}
use Rattle.go_module.specs.Names.Regions.{has_name, is_held, regions_of, resolution}
use Rattle.go_module.specs.Names.Rules.BlockRules.{is_repeated, repeated, repeated_at, repeated_name}
use Rattle.go_module.specs.Names.Universe.{universe}
use Rattle.go_module.proofs.MemberLemmas.{contains_head, contains_tail}
use Rattle.go_scope.specs.Held.{innermost, only_of}
use Rattle.go_scope.proofs.ResolutionLemmas.{declared_is, innermost_is}
use Rattle.go_laws.proofs.ListLemmas.{none_of_each, not_told}

text_is : (a b : List ℕ) → same_text a b ≡ true → a ≡ b
text_is a b e = (bytes_eq-Decides a b).0 e

-- what is found where something is
record IsFound (test : Region → Bool) (regions : List Region) : Type 0 where
  region : Region
  is : find test regions ≡ Some region
  among : Contains regions region
  passes : test region ≡ true

found : (test : Region → Bool) (regions : List Region) → list_any test regions ≡ true → IsFound test regions
found test [] e = absurd (let never : false ≡ true = e in cc)
found test (r ∷ rs) e = by_test (test r) refl e (found test rs)
  where
    by_test : (b : Bool) → test r ≡ b → (b || list_any test rs) ≡ true → (list_any test rs ≡ true → IsFound test rs) → IsFound test (r ∷ rs)
    by_test true passes some later = record { region = r; is = ap (λ b. cond b (Some r) (find test rs)) passes; among = contains_head r rs r refl; passes = passes }
    by_test false fails some later = let rest = later some in record { region = rest.region; is = ap (λ b. cond b (Some r) (find test rs)) fails ∙ rest.is; among = contains_tail r rs rest.region rest.among; passes = rest.passes }

-- the one region of a name
pub record IsOnly (regions : List Region) (name : List ℕ) : Type 0 where
  pub region : Region
  pub is : only_of regions name ≡ Some region
  pub among : Contains regions region

only_there : (regions : List Region) (name : List ℕ) → repeated regions ≡ [] → list_any (has_name name) regions ≡ true → IsOnly regions name
only_there regions name once some =
    let first = found (has_name name) regions some in
    let same : name ≡ first.region.object.name = text_is name first.region.object.name first.passes in
    let alone : is_repeated regions first.region.object.name ≡ false =
    not_told (is_repeated regions first.region.object.name) (broken_at first.region.file first.region.at repeated_name) (none_of_each (repeated_at regions) regions once first.region first.among) in
    let single : is_repeated regions name ≡ false = ap (is_repeated regions) same ∙ alone in
    record {
      region = first.region;
      is = ap (λ b. if b then None else find (has_name name) regions) single ∙ first.is;
      among = first.among;
    }

-- no name is predeclared twice
universe_once : repeated universe ≡ []
unfolding universe
universe_once = refl

-- what is denoted is a region of the file, of the package or of the universe
abbrev pub Stands : List Region → List Region → Region → Type 0
Stands block file r = Contains file r ⊎ (Contains block r ⊎ Contains universe r)

pub record Denotes (regions block file : List Region) (o : Occurrence) : Type 0 where
  pub region : Region
  pub is : resolution regions o ≡ Some region
  pub stands : Stands block file region

pub held_denotes : (known : ℕ → PackageNames) (k : ℕ) (p : PackageData) (o : Occurrence) (imports : List Importing)
    → slice_get (imports_of k p) o.file ≡ Some imports → is_held (regions_of known k p) o ≡ true
    → repeated (package_block k p) ≡ [] → repeated (file_block known imports) ≡ []
    → Denotes (regions_of known k p) (package_block k p) (file_block known imports) o
held_denotes known k p o imports at held block_once file_once =
    by_file (list_any (has_name o.name) (file_block known imports)) refl (declared_is known k p o imports at ∙ held)
  where
    by_universe : list_any (has_name o.name) (file_block known imports) ≡ false → list_any (has_name o.name) (package_block k p) ≡ false → (c : Bool) → list_any (has_name o.name) universe ≡ c → c ≡ true → Denotes (regions_of known k p) (package_block k p) (file_block known imports) o
    by_universe no_file no_block c e some =
        let only = only_there universe o.name universe_once (e ∙ some) in
        let chosen : innermost universe (package_block k p) (file_block known imports) o.name ≡ only_of universe o.name =
        ap (λ b. if b then only_of (file_block known imports) o.name else (if list_any (has_name o.name) (package_block k p) then only_of (package_block k p) o.name else only_of universe o.name)) no_file
        ∙ ap (λ b. if b then only_of (package_block k p) o.name else only_of universe o.name) no_block in
        record { region = only.region; is = sym (innermost_is known k p o imports at) ∙ chosen ∙ only.is; stands = inr (inr only.among) }

    by_block : list_any (has_name o.name) (file_block known imports) ≡ false → (b : Bool) → list_any (has_name o.name) (package_block k p) ≡ b → (b || list_any (has_name o.name) universe) ≡ true → Denotes (regions_of known k p) (package_block k p) (file_block known imports) o
    by_block no_file true e some =
        let only = only_there (package_block k p) o.name block_once e in
        let chosen : innermost universe (package_block k p) (file_block known imports) o.name ≡ only_of (package_block k p) o.name =
        ap (λ b. if b then only_of (file_block known imports) o.name else (if list_any (has_name o.name) (package_block k p) then only_of (package_block k p) o.name else only_of universe o.name)) no_file
        ∙ ap (λ b. if b then only_of (package_block k p) o.name else only_of universe o.name) e in
        record { region = only.region; is = sym (innermost_is known k p o imports at) ∙ chosen ∙ only.is; stands = inr (inl only.among) }
    by_block no_file false e some = by_universe no_file e (list_any (has_name o.name) universe) refl some

    by_file : (a : Bool) → list_any (has_name o.name) (file_block known imports) ≡ a → (a || (list_any (has_name o.name) (package_block k p) || list_any (has_name o.name) universe)) ≡ true → Denotes (regions_of known k p) (package_block k p) (file_block known imports) o
    by_file true e some =
        let only = only_there (file_block known imports) o.name file_once e in
        let chosen : innermost universe (package_block k p) (file_block known imports) o.name ≡ only_of (file_block known imports) o.name =
        ap (λ b. if b then only_of (file_block known imports) o.name else (if list_any (has_name o.name) (package_block k p) then only_of (package_block k p) o.name else only_of universe o.name)) e in
        record { region = only.region; is = sym (innermost_is known k p o imports at) ∙ chosen ∙ only.is; stands = inl only.among }
    by_file false e some = by_block e (list_any (has_name o.name) (package_block k p)) refl some
