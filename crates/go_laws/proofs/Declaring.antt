-- Constant declarations; Variable declarations; Type declarations (Go specification).
-- Says which specs give their declarations headers, in a package and in a module; what such a spec declares means something.
use Rattle.std.specs.Prelude.{◌≡◌, ℕ, Some, List, Contains, IsSome, slice_get}
use Rattle.std.proofs.Common.{ap}
use Rattle.go_base.specs.declared.ids.ObjId.{ObjId}
use Rattle.go_tree.specs.Tree.{Tree}
use Rattle.go_module.specs.declared.object.ObjKind.{ObjKind}
use Rattle.go_module.specs.declared.object.ObjKind.TheVariants.{Alias, Const, Defined, Var}
use Rattle.go_module.specs.Modules.Module.{ModuleData, PackageData}
use Rattle.go_module.specs.Names.Declarations.{Spec, by_values, declared_by_kind, declared_in, specs_of}
use Rattle.go_constructs.specs.declared.meaning.Meaning.TheVariants.{Declared, DefinedType, Other}
use Rattle.go_constructs.specs.Meaning.{kind_meaning}

-- by what is declared, and by the types behind the names: constants, by their values; and variables, types and aliases
-- behind whose names a type stands
abbrev pub GivesHeaders : ObjKind → List Tree → Type 0
GivesHeaders Const types = Unit {0}
GivesHeaders Var types = IsSome (slice_get types 0)
GivesHeaders Defined types = IsSome (slice_get types 0)
GivesHeaders Alias types = IsSome (slice_get types 0)
GivesHeaders kind types = ⊥

abbrev pub AllGiveHeaders : List Spec → Type 0
AllGiveHeaders specs = (spec : Spec) → Contains specs spec → GivesHeaders spec.kind spec.types

-- in each package of the module
abbrev pub DeclareHeaders : ModuleData → Type 0
DeclareHeaders m = (k : ℕ) (p : PackageData) → slice_get m.packages k ≡ Some p → AllGiveHeaders (specs_of p)

-- constants are declared by their values
pub constants_by_values : (spec : Spec) → spec.kind ≡ Const → declared_in spec ≡ by_values spec
constants_by_values spec is = ap (λ kind. declared_by_kind kind spec.types spec) is

-- an object of this kind means something
abbrev pub IsMeaning : ObjKind → Type 0
IsMeaning kind = (d : ObjId) → kind_meaning d kind ≡ Other → ⊥

pub giving_means : (kind : ObjKind) (types : List Tree) → GivesHeaders kind types → IsMeaning kind
giving_means Const types gives d e = let never : Declared d ≡ Other = e in cc
giving_means Var types gives d e = let never : Declared d ≡ Other = e in cc
giving_means Defined types gives d e = let never : DefinedType d ≡ Other = e in cc
giving_means Alias types gives d e = let never : Declared d ≡ Other = e in cc
giving_means kind types gives d e = gives
