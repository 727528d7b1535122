use Rattle.std.proofs.Common.{sym, ◌∙◌, arith}
use Rattle.go_tree.specs.Lexical.Scan.{white, line, general}
use Rattle.go_tree.proofs.SpaceLemmas.{space_lies}
use Rattle.go_form.proofs.BuildConstraintLemmas.{mark_there, line_there, general_there}
use Rattle.go_form.proofs.build_constraints.space_end.Goals as goal

pub char_size-requires : goal.char_size-requires
char_size-requires c = let l = space_lies _ _ _ c.requires.1 in let b = l.behind in let w = l.within in omega (arith, b, w)

pub overflow_add-result-then-byte-ne47 : goal.overflow_add-result-then-byte-ne47
overflow_add-result-then-byte-ne47 c =
    let m = mark_there c.args.bytes.now c.args.at c.requires.0 c.requires.1 (rw c.byte_at-byte.ensures at (sym c.is_white_space.ensures ∙ c.if-is_white_space.false)) (λ e. c.if-byte-ne47.true (c.byte_at-byte.ensures ∙ e)) in
    let size = c.char_size.ensures in
    omega (arith, m.1, size)

pub returns-then-byte-ne47 : goal.returns-then-byte-ne47
returns-then-byte-ne47 c =
    let m = mark_there c.args.bytes.now c.args.at c.requires.0 c.requires.1 (rw c.byte_at-byte.ensures at (sym c.is_white_space.ensures ∙ c.if-is_white_space.false)) (λ e. c.if-byte-ne47.true (c.byte_at-byte.ensures ∙ e)) in
    rw c.char_size.ensures m.0

pub general_end-requires : goal.general_end-requires
general_end-requires c = (_, general_there _ _ _ c.requires.1 (sym c.byte_at-byte.ensures ∙ c.if-byte-ne47.false) (λ e. c.if-byte_at-eq47.false (c.byte_at.ensures ∙ e)))

pub line_end-requires : goal.line_end-requires
line_end-requires c = (_, line_there _ _ _ c.requires.1 (sym c.byte_at-byte.ensures ∙ c.if-byte-ne47.false) (sym c.byte_at.ensures ∙ c.if-byte_at-eq47.true))

pub returns-then-is_white_space : goal.returns-then-is_white_space
returns-then-is_white_space c = white (rw c.byte_at-byte.ensures at (sym c.is_white_space.ensures ∙ c.if-is_white_space.true))

pub returns-then-byte_at-eq47 : goal.returns-then-byte_at-eq47
returns-then-byte_at-eq47 c = line c.line_end.ensures

pub returns-else-byte_at-eq47 : goal.returns-else-byte_at-eq47
returns-else-byte_at-eq47 c = general c.general_end.ensures
