-- What a rulebook stands on: the module, the scopes of its packages, and which package is entered.
use Rattle.std.specs.Prelude.{ℕ, List, Option, slice_get}
use Rattle.std.specs.Option.{option_map_or}
use Rattle.go_base.specs.declared.ids.ObjId.{ObjId}
use Rattle.go_tree.specs.declared.node.NodeId.{NodeId}
use Rattle.go_module.specs.declared.module.Module.{Module}
use Rattle.go_module.specs.declared.scopes.Scopes.{Scopes}
use Rattle.go_judge.specs.Naming.{Naming, no_names}
use Rattle.go_model.specs.Naming.{names_by}
use Rattle.go_check.specs.declared.module_judge.ModuleJudge.{ModuleJudge}

pub record Standing : Type 0 where
  pub «module» : Module
  pub scopes : List Scopes
  pub place : ℕ

abbrev pub standing_of : ModuleJudge → Standing
standing_of judge = record { «module» = judge.module.now; scopes = judge.scopes.now; place = judge.place }

-- the path of the package at a place; where there is none, that of the module
abbrev pub home_at : Module → ℕ → List ℕ
home_at «module» place = option_map_or (λ p. p.path) (slice_get «module».packages.items place) «module».path

-- what the scopes of a package say of identifiers and objects
abbrev pub scope_names : List ℕ → Scopes → Naming
scope_names home scopes = names_by scopes.uses.entries scopes.iotas.entries scopes.objects.entries home

-- what is known of identifiers in the package at a place: where there are no scopes, they denote nothing
abbrev pub names_at : Module → List Scopes → ℕ → Naming
names_at «module» scopes place =
    option_map_or (scope_names (home_at «module» place)) (slice_get scopes place) (record no_names { home = home_at «module» place })

abbrev pub book_names : ModuleJudge → Naming
book_names judge = names_at judge.«module».now judge.scopes.now judge.place

-- the object that an identifier of the package that is entered denotes
abbrev pub denotes_by : ModuleJudge → NodeId → Option ObjId
denotes_by judge id = (book_names judge).denotes id.0
