-- How the declarations of a spec have their headers: constants by their values, others by the type behind their names.
use Rattle.std.proofs.Common.{◌≡◌, true, Some, List, [], ◌∷◌, ◌⊎◌, inl, inr, map, Contains, refl, sym, ap}
use Rattle.go_tree.specs.Tree.{Tree}
use Rattle.go_module.proofs.MemberLemmas.{cons_cases, contains_head, contains_none, contains_tail}
use Rattle.go_module.specs.Names.Declarations.{Declaration, Spec, by_itself, declared_by_kind, pairs}
use Rattle.go_module.specs.declared.declaration.Built.TheVariants.{Itself, Pair}
use Rattle.go_module.specs.declared.object.ObjKind.{ObjKind}
use Rattle.go_module.specs.declared.object.ObjKind.TheVariants.{Alias, Defined, Var}
use Rattle.go_judge.specs.Kinds.{no_type}
use Rattle.go_judge.specs.Judged.{OutcomeData}
use Rattle.go_judge.specs.Operands.{is_type}
use Rattle.go_judge.specs.Records.{HeaderData, RecData, alias, definition, type_in, variable}
use Rattle.go_values.specs.Records.{tells_by, told_by}
use Rattle.go_values.specs.Rules.{others_by, others_by_kind}
use Rattle.go_laws.proofs.RecordLemmas.{type_declared}

-- CONSTANTS

-- a declaration of a spec with as many names as expressions is that of one of these
pub record IsPair (spec : Spec) (values : List Tree) (d : Declaration) : Type 0 where
  pub value : Tree
  pub among : Contains values value
  pub kind : d.kind ≡ spec.kind
  pub values_are : d.values ≡ value ∷ []
  pub built : d.built ≡ Pair

pub pair_is : (spec : Spec) (names values : List Tree) (d : Declaration) → Contains (pairs spec names values) d → IsPair spec values d
pair_is spec [] values d h = absurd (contains_none d h)
pair_is spec (name ∷ names) [] d h = absurd (contains_none d h)
pair_is spec (name ∷ names) (value ∷ values) d h = by_cases (cons_cases _ (pairs spec names values) d h) (pair_is spec names values d)
  where
    by_cases : (record { file = spec.file; kind = spec.kind; name = name; types = spec.types; values = value ∷ []; built = Pair } ≡ d) ⊎ Contains (pairs spec names values) d → (Contains (pairs spec names values) d → IsPair spec values d) → IsPair spec (value ∷ values) d
    by_cases (inl same) rest = record {
      value = value;
      among = contains_head value values value refl;
      kind = ap (λ (x : Declaration). x.kind) (sym same);
      values_are = ap (λ (x : Declaration). x.values) (sym same);
      built = ap (λ (x : Declaration). x.built) (sym same);
    }
    by_cases (inr there) rest = let found = rest there in record {
      value = found.value;
      among = contains_tail value values found.value found.among;
      kind = found.kind;
      values_are = found.values_are;
      built = found.built;
    }

-- VARIABLES, TYPES AND ALIASES

-- kinds of objects whose declarations have their headers by a type
pub data ByType : ObjKind → Type 0 where
  of_variable : ByType Var
  of_definition : ByType Defined
  of_alias : ByType Alias

pub type_declares : {kind : ObjKind} → ByType kind → (t : Tree) (ts : List Tree) (spec : Spec) → declared_by_kind kind (t ∷ ts) spec ≡ map (by_itself spec) spec.names
type_declares of_variable t ts spec = refl
type_declares of_definition t ts spec = refl
type_declares of_alias t ts spec = refl

pub type_tells : {kind : ObjKind} → ByType kind → (t : Tree) (ts values : List Tree) → tells_by kind Itself (t ∷ ts) values ≡ Some t
type_tells of_variable t ts values = refl
type_tells of_definition t ts values = refl
type_tells of_alias t ts values = refl

pub type_needed : (found : Tree → OutcomeData RecData) {kind : ObjKind} → ByType kind → (spec : Spec) (types values : List Tree) → others_by_kind found kind spec types values ≡ others_by found no_type is_type spec types
type_needed found of_variable spec types values = refl
type_needed found of_definition spec types values = refl
type_needed found of_alias spec types values = refl

pub type_told : {kind : ObjKind} → ByType kind → (r : RecData) → is_type r ≡ true → (h : HeaderData) × (told_by kind r ≡ Some h)
type_told of_variable r is = type_declared variable (type_in r) is
type_told of_definition r is = type_declared (λ type. definition [] type []) (type_in r) is
type_told of_alias r is = type_declared alias (type_in r) is
