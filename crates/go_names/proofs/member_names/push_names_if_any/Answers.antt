use Rattle.std.proofs.Common.{[], ◌++◌, map, sym, ap, ◌∙◌}
use Rattle.std.specs.Prelude.{if◌then◌else◌}
use Rattle.std.specs.List.{flat_map}
use Rattle.std.proofs.lemmas.List.{append-nil}
use Rattle.go_tree.specs.Tree.{tree_of}
use Rattle.go_module.specs.Names.Rules.MemberRules as rule
use Rattle.go_names.specs.Views.{trees_at}
use Rattle.go_names.proofs.MemberLemmas.{any_named}
use Rattle.go_names.proofs.member_names.push_names_if_any.Goals as goal

pub returns-else-has_named : goal.returns-else-has_named
returns-else-has_named c =
    let old = trees_at c.args.names.now.items in
    let params = map tree_of c.args.params.now in
    let none = sym (any_named c.args.params.now) ∙ sym c.has_named.ensures ∙ c.if-has_named.false in
    sym (append-nil old) ∙ ap (λ b. old ++ (if b then flat_map rule.param_names params else [])) (sym none)
