-- What an identifier means: where it is a declaration, what the package declares, or what an imported package exports, which is
-- good; and a universe name never means one.
use Rattle.std.proofs.Common.{◌≡◌, ℕ, zero, suc, ◌&&◌, Bool, true, false, Option, Some, None, List, [], ◌∷◌, ◌⊎◌, inl, inr, refl, sym, ap, ◌∙◌, subst}
use Rattle.std.specs.Prelude.{nat_lt, if◌then◌else◌, slice_get, unwrap_or}
use Rattle.std.specs.List.{list_all}
use Rattle.std.specs.Map.{lookup}
use Rattle.std.specs.Option.{option_map_or}
use Rattle.std.proofs.lemmas.Bool.{lt-ltb}
use Rattle.std.proofs.lemmas.Option.{none-some, same_Some}
use Rattle.go_base.specs.declared.ids.ObjId.{ObjId}
use Rattle.go_module.specs.declared.object.Object.{Object}
use Rattle.go_module.specs.declared.object.ObjKind.{ObjKind}
use Rattle.go_module.specs.declared.object.ObjKind.TheVariants.{Alias, Const, Defined, Package, Var}
use Rattle.go_module.specs.Modules.Module.{ModuleData, PackageData, first_number}
use Rattle.go_module.specs.Names.Declarations.{Declaration, declarations_of}
use Rattle.go_module.specs.Scopes.{same_node}
use Rattle.go_constructs.specs.declared.meaning.Meaning.{Meaning}
use Rattle.go_constructs.specs.declared.meaning.Meaning.TheVariants.{AnyType, BasicType, Declared, DefinedType, Iota, Other, Predeclared, Truth}
use Rattle.go_judge.specs.Headers.{is_predeclared}
use Rattle.go_constructs.specs.Meaning.{denoted_meaning, kind_meaning, predeclared_meaning, predeclared_meanings}
use Rattle.go_model.specs.Naming.{names_in, uses_table}
use Rattle.go_values.specs.Declared.{declared_as}
use Rattle.go_laws.proofs.DenotedLemmas.{declared_by_number}
use Rattle.go_laws.proofs.Denoting.{ImportsAreGood, MeansGood, meant_in}
use Rattle.go_laws.proofs.KindLemmas.{Origin, of_block, of_export, of_import, of_universe, table_origin}

-- one of these declarations has this number
abbrev pub HasDeclaration : List Declaration → ℕ → Type 0
HasDeclaration declarations n = (declaration : Declaration) × (declared_as declarations n ≡ Some declaration)

-- a universe name means a type, a truth value or iota, or is not built yet
abbrev pub is_universal : Meaning → Bool
is_universal (BasicType d basic) = true
is_universal (AnyType d) = true
is_universal (Truth d truth) = true
is_universal (Iota d n) = true
is_universal Predeclared = true
is_universal m = false

among_universal : (ms : List Meaning) → list_all is_universal ms ≡ true → (n : ℕ) → is_universal (unwrap_or (slice_get ms n) Predeclared) ≡ true
among_universal [] all n = refl
among_universal (m ∷ ms) all n = by_first (is_universal m) refl all n (λ rest k. among_universal ms rest k)
  where
    by_first : (b : Bool) → is_universal m ≡ b → (b && list_all is_universal ms) ≡ true → (n : ℕ) → (list_all is_universal ms ≡ true → (k : ℕ) → is_universal (unwrap_or (slice_get ms k) Predeclared) ≡ true)
        → is_universal (unwrap_or (slice_get (m ∷ ms) n) Predeclared) ≡ true
    by_first false e all n later = absurd (let never : false ≡ true = all in cc)
    by_first true e all zero later = e
    by_first true e all (suc n) later = later all n

pub predeclared_universal : (iota : Option ℕ) (d : ObjId) → is_universal (predeclared_meaning iota d) ≡ true
predeclared_universal iota d = among_universal (predeclared_meanings iota d) refl d.0

universal_means_none : (m : Meaning) → is_universal m ≡ true → meant_in m ≡ None
universal_means_none (Declared d) is = absurd (let never : false ≡ true = is in cc)
universal_means_none (DefinedType d) is = absurd (let never : false ≡ true = is in cc)
universal_means_none m is = refl

-- what means a declaration is no package, and no universe name
record IsMeant (objects : ℕ → Option Object) (d : ObjId) : Type 0 where
  own : is_predeclared d ≡ false
  object : Object
  found : objects d.0 ≡ Some object
  kind : object.kind ≡ Package → ⊥

by_kind : (d e : ObjId) (kind : ObjKind) → meant_in (kind_meaning d kind) ≡ Some e → (d ≡ e) × (kind ≡ Package → ⊥)
by_kind d e Const naming = (same_Some d e naming, λ is. cc)
by_kind d e Var naming = (same_Some d e naming, λ is. cc)
by_kind d e Alias naming = (same_Some d e naming, λ is. cc)
by_kind d e Defined naming = (same_Some d e naming, λ is. cc)
by_kind d e kind naming = absurd (none-some e naming)

by_denoted : (objects : ℕ → Option Object) (iota : Option ℕ) (denoted : Option ObjId) (e : ObjId) → meant_in (denoted_meaning objects iota denoted) ≡ Some e → IsMeant objects e
by_denoted objects iota None e naming = absurd (none-some e naming)
by_denoted objects iota (Some d) e naming = by_test (is_predeclared d) refl (objects d.0) refl naming
  where
    by_test : (b : Bool) → is_predeclared d ≡ b → (o : Option Object) → objects d.0 ≡ o
        → meant_in (if b then predeclared_meaning iota d else option_map_or (λ (object : Object). kind_meaning d object.kind) o Other) ≡ Some e → IsMeant objects e
    by_test true own o found is = absurd (none-some e (sym (universal_means_none (predeclared_meaning iota d) (predeclared_universal iota d)) ∙ is))
    by_test false own None found is = absurd (none-some e is)
    by_test false own (Some object) found is =
        let kind = by_kind d e object.kind is in
        subst (IsMeant objects) kind.0 (record { own = own; object = object; found = found; kind = kind.1 })

pub meant_good : (m : ModuleData) (k : ℕ) (p : PackageData) (good : ℕ → Type 0) → ImportsAreGood m p good → MeansGood (names_in m k p) (λ n. HasDeclaration (declarations_of p) n ⊎ good n)
meant_good m k p good imports id d naming =
    let meant = by_denoted (names_in m k p).objects ((names_in m k p).iota id) (lookup (same_node (record { 0 = id })) (uses_table m k p)) d naming in
    let entry = table_origin m k p d meant.object meant.found in
    by_origin meant (ap (λ (e : ObjId). e.0) entry.number) entry.origin
  where
    by_origin : (meant : IsMeant (names_in m k p).objects d) → meant.object.at.0 ≡ d.0 → Origin m k p meant.object → HasDeclaration (declarations_of p) d.0 ⊎ good d.0
    by_origin meant same (of_universe below) =
        absurd (let never : false ≡ true = sym meant.own ∙ subst (λ n. nat_lt n first_number ≡ true) same (lt-ltb meant.object.at.0 first_number below) in cc)
    by_origin meant same (of_import kind there) = absurd (meant.kind kind)
    by_origin meant same (of_export q among is) =
        inr (subst good (ap (λ (o : Object). o.at.0) is.is ∙ same) (imports q is.home among is.at is.declaration is.among))
    by_origin meant same (of_block declaration among is) =
        let first = declared_by_number (declarations_of p) declaration among in
        inl (first.0, ap (declared_as (declarations_of p)) (sym (ap (λ (o : Object). o.at.0) is ∙ same)) ∙ first.1)
