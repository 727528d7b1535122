use Rattle.std.proofs.Common.{◌≡◌, ◌++◌, take}
use Rattle.std.specs.List.{flat_map}
use Rattle.go_report.specs.Text.Lines.{broken_fields, line_text}
use Rattle.go_records.proofs.text.put_list.Given as goal

abbrev pub invariant-loop-broken : goal.invariant-loop-broken
invariant-loop-broken l = l.out.items ≡ l.initial.out.items ++ flat_map (λ broken. line_text (broken_fields broken)) (take l.broken-index l.list)
