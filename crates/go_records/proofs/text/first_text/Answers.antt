use Rattle.std.proofs.Common.{◌++◌, [], ◌∷◌, ap, ◌∙◌}
use Rattle.std.specs.Prelude.{codes}
use Rattle.std.specs.List.{flat_map}
use Rattle.go_report.specs.Text.Lines.{broken_fields, first_fields, line_text}
use Rattle.go_records.proofs.TextLemmas.{behind_text}
use Rattle.go_records.proofs.text.first_text.Goals as goal

pub returns : goal.returns
returns c =
    let whole = behind_text line_text broken_fields (codes "refused" ∷ []) c.args.list.now c.new-out.result.items c.put_line.new.out.items c.put_list.new.out.items c.in_ok-put_line.ensures c.in_ok-put_list.ensures in
    whole ∙ ap (λ t. t ++ flat_map line_text (first_fields c.args.list.now)) c.new-out.ensures.items
