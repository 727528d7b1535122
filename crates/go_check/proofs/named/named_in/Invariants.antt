use Rattle.std.proofs.Common.{◌≡◌, ◌++◌, [], map, drop}
use Rattle.std.specs.List.{flat_map}
use Rattle.indexmap.specs.IndexMap.{insert_all}
use Rattle.go_module.specs.Scopes.{same_object}
use Rattle.go_report.specs.PackageLines.{objects_in_what}
use Rattle.go_report.specs.Outline.{named_by}
use Rattle.go_report.specs.Report.{line_view, named_view}
use Rattle.go_check.specs.View.{outline_view}
use Rattle.go_check.proofs.named.named_in.Given as goal

-- the table, with the objects of the lines left, is that of all lines
abbrev pub invariant-loop-line : goal.invariant-loop-line
invariant-loop-line l =
    insert_all same_object l.objects.entries (map (λ d. (d, d)) (flat_map (λ line. objects_in_what line.what) (map line_view (drop l.line-index l.lines)))) ≡ insert_all same_object [] (map (λ d. (d, d)) (flat_map (λ line. objects_in_what line.what) (map line_view l.lines)))

-- what is pushed, with the objects left, are all objects
abbrev pub invariant-loop-d : goal.invariant-loop-d
invariant-loop-d l =
    map named_view l.named.items ++ map (named_by (outline_view l.outline)) l.d-iterator ≡ map (named_by (outline_view l.outline)) l.initial.d-iterator
