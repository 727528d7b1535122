-- push_if_named
use Rattle.std.proofs.Common.{[], ◌++◌, map, sym, ap, ◌∙◌}
use Rattle.std.specs.Prelude.{if◌then◌else◌}
use Rattle.std.proofs.lemmas.List.{append-nil}
use Rattle.go_tree.specs.Tree.{tree_of}
use Rattle.go_term.specs.View.{type_of}
use Rattle.go_module.specs.Modules.Module.{file_view}
use Rattle.go_report.specs.Members.{each_by, param_member}
use Rattle.go_report.specs.PackageLines.{member_def}
use Rattle.go_report.specs.Report.{line_view}
use Rattle.go_names.proofs.MemberLemmas.{any_named}
use Rattle.go_members.proofs.params.push_if_named.Goals as goal

pub returns-else-has_named : goal.returns-else-has_named
returns-else-has_named c =
    let old = map line_view c.args.lines.now.items in
    let line = member_def c.args.stub (file_view c.args.file.now) in
    let members = each_by param_member (map tree_of c.args.params.now) (map type_of c.args.types.now) in
    let none = sym (any_named c.args.params.now) ∙ sym c.has_named.ensures ∙ c.if-has_named.false in
    sym (append-nil old) ∙ ap (λ b. old ++ map line (if b then members else [])) (sym none)
