use Rattle.std.proofs.Common.{◌++◌, [], ◌∷◌, map, ap, sym, ◌∙◌}
use Rattle.std.specs.Prelude.{codes}
use Rattle.std.specs.Option.{option_map}
use Rattle.go_term.specs.View.{type_of}
use Rattle.go_report.specs.Report.{named_view, what_view}
use Rattle.go_report.specs.Text.Lines.{line_text, mode_text, type_fields, value_fields, what_fields}
use Rattle.go_report.specs.Text.Places.{end_text, place_text}
use Rattle.go_records.proofs.FieldLemmas.{line_in_parts}
use Rattle.go_records.proofs.lines.put_package_line.Goals as goal

pub returns-in_ok-push-in-Expr : goal.returns-in_ok-push-in-Expr
returns-in_ok-push-in-Expr c =
    let line = c.args.line.now in
    let objects = map named_view c.args.named.now in
    let whole = line_in_parts (codes "expr") (place_text line.at ∷ end_text c.in-Expr.end ∷ mode_text c.in-Expr.mode ∷ []) (type_fields objects (option_map type_of c.in-Expr.term)) (value_fields c.in-Expr.value)
    c.args.out.now.items c.put_expr_fields.new.out.items c.put_type_field.new.out.items c.put_value_field.new.out.items c.push.new.self.items
    c.in_ok-put_expr_fields-in-Expr.ensures c.in_ok-put_type_field-in-Expr.ensures c.in_ok-put_value_field-in-Expr.ensures c.in_ok-push-in-Expr.ensures.items in
    whole ∙ ap (λ what. c.args.out.now.items ++ line_text (what_fields objects line.at (what_view what))) (sym c.in-Expr.is)
