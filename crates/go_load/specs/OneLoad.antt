-- The law of loading.
-- Says when two roots of a tree give one answer: a module, or a list of broken rules.
use Rattle.std.specs.Prelude.{◌≡◌, ℕ, List, Option}
use Rattle.go_base.specs.declared.tree.MemFile.{MemFile}
use Rattle.go_module.specs.declared.places.Placed.{Placed}
use Rattle.go_module.specs.Modules.Module.{ModuleData}
use Rattle.go_load.specs.Loading.{LoadsBroken, LoadsModule}

-- at most one module is loaded, at most one list of broken rules is told, and not both
pub record OneLoad (told : Option (List MemFile)) (root : List ℕ) (stubs_root : Option (List ℕ)) : Type 0 where
  pub one_module : (a b : ModuleData) → LoadsModule told root stubs_root a → LoadsModule told root stubs_root b → a ≡ b
  pub one_list : (a b : List Placed) → LoadsBroken told root stubs_root a → LoadsBroken told root stubs_root b → a ≡ b
  pub not_both : (m : ModuleData) (list : List Placed) → LoadsModule told root stubs_root m → LoadsBroken told root stubs_root list → ⊥
