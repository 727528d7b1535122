use Rattle.std.proofs.Common.{not, ◌<◌, filter, length, map, arith}
use Rattle.go_tree.specs.Tree.{kind_of, tree_of}
use Rattle.go_module.specs.Names.Inner.{is_tag_kind}
use Rattle.go_names.proofs.MemberLemmas.{last_left}
use Rattle.go_names.proofs.member_names.push_before_type.Goals as goal

pub returns-then-len-before : goal.returns-then-len-before
returns-then-len-before c =
    let old = c.args.names.now in
    let pushed = c.push_but_tag.new.names in
    let more : length old.items < length pushed.items = omega (arith, c.if-len-before.true, c.len-before.ensures, c.len.ensures, old.ok.0, pushed.ok.0) in
    last_left pushed.len old.items pushed.items c.pop.new.self.items (filter (λ t. not (is_tag_kind (kind_of t))) (map tree_of c.args.parts.now)) pushed.ok.0 c.in_ok-push_but_tag.ensures c.pop.ensures.rest more
