use Rattle.std.proofs.Common.{sym, ap, ◌∙◌}
use Rattle.go_parse_x.specs.Answers.{spot_of}
use Rattle.go_parse_x.specs.Pieces.{open_view}
use Rattle.go_parse_x.specs.Targets.{piece, hands}
use Rattle.go_parse_x.proofs.PieceLemmas.{piece_is}
use Rattle.go_parse_x.proofs.TextLemmas.{reached_here, lexical_here, no_file_yet, fault_so, ends_so, passed_so}
use Rattle.go_parse_x.proofs.texts.read_tokens.Goals as goal

pub returns-in-Err-clause-answer : goal.returns-in-Err-clause-answer
returns-in-Err-clause-answer c =
    let i = c.loop-lex.invariant in
    let z = i.still_open in
    lexical_here _ _ (open_view c.loop-lex.pending) (piece_is c.loop-lex.pending.reading) _ z.0 _ _ _ (spot_of c.loop-lex.cursor) i.text (ap piece (i.same_piece.0 ∙ c.requires.file)) i.same_piece.1 z.1 z.2 c.in-Err.lex c.in-Err.ensures.none

pub returns-then-is_end-clause-answer : goal.returns-then-is_end-clause-answer
returns-then-is_end-clause-answer c =
    let i = c.loop-lex.invariant in
    let z = i.still_open in
    let end = rw c.if-is_end.true at c.is_end.ensures in
    let reached = reached_here _ _ (open_view c.loop-lex.pending) (piece_is c.loop-lex.pending.reading) _ z.0 _ _ _ (spot_of c.loop-lex.cursor) i.text (ap piece (i.same_piece.0 ∙ c.requires.file)) i.same_piece.1 z.1 z.2 in
    ends_so _ _ _ _ z.0 c.in-Ok.token _ (spot_of c.loop-lex.cursor) _ _ _ _ i.text i.same_piece.1 c.last_token.ensures.text.1 reached (rw i.text at c.in-Ok.ensures.token) end (c.last_token.ensures.answer z.0 _ z.2)

pub returns-in-Err-one_token-clause-answer : goal.returns-in-Err-one_token-clause-answer
returns-in-Err-one_token-clause-answer c =
    let i = c.loop-lex.invariant in
    let z = i.still_open in
    fault_so _ _ _ _ _ z.0 _ (spot_of c.loop-lex.cursor) _ _ _ _ _ i.text (ap piece (i.same_piece.0 ∙ c.requires.file)) i.same_piece.1 z.1 (c.in-Err-one_token.ensures.progress z.0 _ z.2 (no_file_yet _ _ _ z.0 _ (spot_of c.loop-lex.cursor) i.text (ap piece (i.same_piece.0 ∙ c.requires.file)) z.1))

pub returns-in-Ok-AtBlock-clause-answer : goal.returns-in-Ok-AtBlock-clause-answer
returns-in-Ok-AtBlock-clause-answer c =
    let i = c.loop-lex.invariant in
    let z = i.still_open in
    let p = rw c.in-Ok-AtBlock.field-0-is at c.in-Ok-AtBlock.ensures.progress in
    let over = (p z.0 _ z.2 (no_file_yet _ _ _ z.0 _ (spot_of c.loop-lex.cursor) i.text (ap piece (i.same_piece.0 ∙ c.requires.file)) z.1)).2 in
    let file = ap hands (c.in-Ok-AtBlock.ensures.piece.0 ∙ (i.same_piece.0 ∙ c.requires.file)) in
    absurd (let w = sym file ∙ over in cc)

pub loop-lex-preserved : goal.loop-lex-preserved
loop-lex-preserved c =
    let i = c.loop-lex.invariant in
    let d = c.in-Ok-Passed.ensures in
    let z = i.still_open in
    let p = rw c.in-Ok-Passed.field-0-is at d.progress in
    let w = p z.0 _ z.2 (no_file_yet _ _ _ z.0 _ (spot_of c.loop-lex.cursor) i.text (ap piece (i.same_piece.0 ∙ c.requires.file)) z.1) in
    let more = rw c.if-is_end.false at c.is_end.ensures in
    let x = passed_so _ _ _ z.0 c.in-Ok.token _ _ _ (spot_of c.loop-lex.cursor) (spot_of c.one_token.new.cursor) i.text z.1 c.in-Ok.ensures.token more w.0 w.2 in
    record {
      text = d.text.0 ∙ i.text;
      same_fault = d.text.1 ∙ i.same_fault;
      same_piece = (d.piece.0 ∙ i.same_piece.0, d.piece.1 ∙ i.same_piece.1);
      still_open = (x.0, x.1, rw d.text.0 x.2);
    }
