-- Import declarations; Declarations and scope (Go specification).
-- Says what is known of the declarations of packages that a package imports, and of those that its identifiers mean: that they are
-- good, whatever good is.
use Rattle.std.specs.Prelude.{◌≡◌, ℕ, Option, Some, None, Contains, slice_get}
use Rattle.go_base.specs.declared.ids.ObjId.{ObjId}
use Rattle.go_module.specs.Modules.Module.{ModuleData, PackageData}
use Rattle.go_module.specs.Names.Declarations.{Declaration, declarations_of, number_of}
use Rattle.go_constructs.specs.declared.meaning.Meaning.{Meaning}
use Rattle.go_constructs.specs.declared.meaning.Meaning.TheVariants.{Declared, DefinedType}
use Rattle.go_constructs.specs.Meaning.{meaning_by}
use Rattle.go_judge.specs.Naming.{Naming}

-- each declaration of each package that is imported
abbrev pub ImportsAreGood : ModuleData → PackageData → (ℕ → Type 0) → Type 0
ImportsAreGood m p good = (i : ℕ) (q : PackageData) → Contains p.imports i → slice_get m.packages i ≡ Some q → (d : Declaration) → Contains (declarations_of q) d → good (number_of d).0

-- the declaration that is meant, for its header or for the type that it defines; a universe name means none
abbrev pub meant_in : Meaning → Option ObjId
meant_in (Declared d) = Some d
meant_in (DefinedType d) = Some d
meant_in m = None

-- each declaration that an identifier means
abbrev pub MeansGood : Naming → (ℕ → Type 0) → Type 0
MeansGood naming good = (id : ℕ) (d : ObjId) → meant_in (meaning_by naming id) ≡ Some d → good d.0
