use Rattle.std.proofs.Common.{List, ◌≡◌, ◌<◌, ◌+◌, ◌∷◌, ◌++◌, ℕ, [], length, slice_index, slice_range, sym, ◌∙◌, ap, arith}
use Rattle.go_tree.specs.Lexical.LiteralValues.{escape_len, unescaped}
use Rattle.go_scan.specs.Quoted.{Escapes}
use Rattle.go_scan.proofs.UnescapeLemmas.{NextEscape, next_escape, escapes_from, unescaped_byte}
use Rattle.go_scan.proofs.values.next_piece.Goals as goal

pub returns-then-byte-ne92-clause-value : goal.returns-then-byte-ne92-clause-value
returns-then-byte-ne92-clause-value c =
    let f = escapes_from c.requires.escapes in
    unescaped_byte c.args.bytes.now c.args.at c.args.close c.requires.before (omega (arith, f.1, c.requires.before)) (λ e. c.if-byte-ne92.true (c.byte_at-byte.ensures ∙ e))
    ∙ ap (λ b. b ∷ unescaped 0 (slice_range c.args.bytes.now (c.args.at + 1) c.args.close)) (sym c.byte_at-byte.ensures)

next : (bytes : List ℕ) (close at b size second : ℕ) → Escapes bytes close at → at < close → b ≡ slice_index bytes at → b ≡ 92 → ((rest : List ℕ) → size ≡ escape_len (second ∷ rest)) → second ≡ slice_index bytes (at + 1) → NextEscape bytes close at (at + 1 + size)
next bytes close at b size second s lt here is len behind = next_escape bytes close at size s lt (sym here ∙ is) (len [] ∙ ap (λ x. escape_len (x ∷ [])) behind)

pub overflow_add-to : goal.overflow_add-to
overflow_add-to c = let n = next c.args.bytes.now c.args.close c.args.at c.byte_at-byte.result c.escape_len.result c.byte_at.result c.requires.escapes c.requires.before c.byte_at-byte.ensures c.if-byte-ne92.false c.escape_len.ensures c.byte_at.ensures in omega (arith, n.within)

pub slice_bounds-piece_of-end : goal.slice_bounds-piece_of-end
slice_bounds-piece_of-end c = let n = next c.args.bytes.now c.args.close c.args.at c.byte_at-byte.result c.escape_len.result c.byte_at.result c.requires.escapes c.requires.before c.byte_at-byte.ensures c.if-byte-ne92.false c.escape_len.ensures c.byte_at.ensures in omega (arith, n.inside)

pub piece_of-requires : goal.piece_of-requires
piece_of-requires c = let n = next c.args.bytes.now c.args.close c.args.at c.byte_at-byte.result c.escape_len.result c.byte_at.result c.requires.escapes c.requires.before c.byte_at-byte.ensures c.if-byte-ne92.false c.escape_len.ensures c.byte_at.ensures in n.is

pub returns-clause-escapes : goal.returns-clause-escapes
returns-clause-escapes c = let n = next c.args.bytes.now c.args.close c.args.at c.byte_at-byte.result c.escape_len.result c.byte_at.result c.requires.escapes c.requires.before c.byte_at-byte.ensures c.if-byte-ne92.false c.escape_len.ensures c.byte_at.ensures in n.rest

pub returns-clause-short : goal.returns-clause-short
returns-clause-short c = let n = next c.args.bytes.now c.args.close c.args.at c.byte_at-byte.result c.escape_len.result c.byte_at.result c.requires.escapes c.requires.before c.byte_at-byte.ensures c.if-byte-ne92.false c.escape_len.ensures c.byte_at.ensures in let l = ap length c.piece_of.ensures in omega (arith, n.short)

pub returns-clause-value : goal.returns-clause-value
returns-clause-value c = let n = next c.args.bytes.now c.args.close c.args.at c.byte_at-byte.result c.escape_len.result c.byte_at.result c.requires.escapes c.requires.before c.byte_at-byte.ensures c.if-byte-ne92.false c.escape_len.ensures c.byte_at.ensures in n.value ∙ ap (λ t. t ++ unescaped 0 (slice_range c.args.bytes.now (c.args.at + 1 + c.escape_len.result) c.args.close)) (sym c.piece_of.ensures)
