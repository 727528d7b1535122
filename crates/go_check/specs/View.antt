-- What the outline of the program stands for.
use Rattle.std.specs.Prelude.{map}
use Rattle.go_module.specs.Modules.Module.{package_view}
use Rattle.go_report.specs.Outline.{Outline}
use Rattle.go_check.specs.declared.outline.Outline.{Outline as OwnOutline}

abbrev pub outline_view : OwnOutline → Outline
outline_view outline = record { paths = map (λ p. p.path) (map package_view outline.packages.now); declared = outline.declared.now.entries }
