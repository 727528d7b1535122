-- What packages are known by, and imports, as the code has them.
use Rattle.std.specs.Prelude.{ℕ, [], slice_get}
use Rattle.std.specs.Option.{option_map_or}
use Rattle.go_tree.specs.Tree.{tree_of}
use Rattle.go_module.specs.Names.Imports.{PackageNames, Importing, known_by_tables}
use Rattle.go_scope.specs.declared.known.Before.{Before}
use Rattle.go_scope.specs.declared.imports.ImportAt.{ImportAt}

-- what the package at a place is known by
abbrev pub known_by : Before → ℕ → PackageNames
known_by b k =
    known_by_tables (option_map_or (λ p. p.name) (slice_get b.packages.now k) [])
    (option_map_or (λ s. s.names.entries) (slice_get b.scopes.now k) [])
    (option_map_or (λ s. s.objects.entries) (slice_get b.scopes.now k) [])

abbrev pub importing : ImportAt → Importing
importing i = record { spec = tree_of i.spec.now; file = i.file; importer = i.importer; imported = i.imported }
