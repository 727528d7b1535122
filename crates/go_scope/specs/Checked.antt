-- What the files of a package denote and break, file after file, by the specs of each.
use Rattle.std.specs.Prelude.{ℕ, ◌+◌, Bool, List, [], ◌∷◌, ◌++◌, map}
use Rattle.std.specs.List.{flat_map}
use Rattle.go_base.specs.declared.rule.Broken.{Broken}
use Rattle.go_module.specs.declared.block.Region.{Region}
use Rattle.go_module.specs.Modules.Module.{FileData}
use Rattle.go_module.specs.Names.Declarations.{Spec}
use Rattle.go_module.specs.Names.Imports.{PackageNames}
use Rattle.go_module.specs.Names.Occurrences.{names_in_parts}
use Rattle.go_scope.specs.declared.resolved.Resolved.{Resolved}
use Rattle.go_scope.specs.Blocks.{BlockData}
use Rattle.go_scope.specs.Resolved.{resolved_in, broken_file_by}

abbrev pub all_of : List (List Resolved) → List Resolved
all_of lists = flat_map (λ list. list) lists

-- what occurs in these specs of a file with that block
abbrev pub resolved_parts : List Region → List Region → BlockData → List Spec → List Resolved
resolved_parts universe block own specs = map (resolved_in universe block own.regions) (flat_map names_in_parts specs)

abbrev pub resolved_from : List Region → List Region → List BlockData → List (List Spec) → List (List Resolved)
resolved_from universe block (own ∷ blocks) (specs ∷ lists) = resolved_parts universe block own specs ∷ resolved_from universe block blocks lists
resolved_from universe block blocks lists = []

abbrev pub broken_from : (ℕ → PackageNames) → Bool → List Region → List Region → ℕ → List BlockData → List FileData → List (List Spec) → List Broken
broken_from known is_main universe block i (own ∷ blocks) (f ∷ files) (specs ∷ lists) =
    broken_file_by known is_main block own i f (resolved_parts universe block own specs) specs
    ++ broken_from known is_main universe block (i + 1) blocks files lists
broken_from known is_main universe block i blocks files lists = []
