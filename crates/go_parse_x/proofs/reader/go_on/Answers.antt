use Rattle.std.proofs.Common.{List, [], ◌++◌, refl, sym, ap, subst, ◌∙◌}
use Rattle.go_parse_x.specs.Targets.{piece, hands}
use Rattle.std.proofs.lemmas.List.{append-nil}
use Rattle.go_tree.specs.declared.token.Token.{Token}
use Rattle.go_parse_x.specs.Answers.{spot_of}
use Rattle.go_parse_x.specs.Pieces.{open_view, IsOpen}
use Rattle.go_parse_x.proofs.PieceLemmas.{piece_is}
use Rattle.go_parse_x.proofs.NoBlockLemmas.{none_passed}
use Rattle.go_parse_x.proofs.AnswerLemmas.{lexical_answer, block_answer, answer_behind, open_behind}
use Rattle.go_parse_x.proofs.reader.go_on.Goals as goal

pub loop-lex-init : goal.loop-lex-init
loop-lex-init c = record {
  solid = c.requires.solid;
  begun = c.requires.begun;
  awaits = c.requires.awaits;
  text = (refl, refl);
  same_piece = (refl, refl);
  still_open = λ front low o.
      let P : List Token → Type 0 = λ x. IsOpen c.args.cursor.now.bytes.now (open_view c.args.pending.now) x low c.args.cursor.now.number c.args.cursor.now.at c.args.cursor.now.last in
      ([], (refl, refl), none_passed _ _ front, subst P (sym (append-nil front)) o);
}

pub returns-in-Err-clause-answer : goal.returns-in-Err-clause-answer
returns-in-Err-clause-answer c = λ front low o.
    let i = c.loop-lex.invariant in
    let z = i.still_open front low o in
    answer_behind _ _ _ _ _ _ front z.0 _ (spot_of c.loop-lex.cursor) _ low _ _ _ i.text.0 (ap piece i.same_piece.0) i.same_piece.1 z.1 z.2
    (lexical_answer _ (open_view c.loop-lex.pending) (piece_is c.loop-lex.pending.reading) (front ++ z.0) low _ (spot_of c.loop-lex.cursor) z.3 _ _ c.in-Err.lex c.in-Err.ensures.none)

pub returns-then-is_last-clause-answer : goal.returns-then-is_last-clause-answer
returns-then-is_last-clause-answer c = λ front low o.
    let i = c.loop-lex.invariant in
    let z = i.still_open front low o in
    answer_behind _ _ _ _ _ _ front z.0 _ (spot_of c.loop-lex.cursor) _ low _ _ _ i.text.0 (ap piece i.same_piece.0) i.same_piece.1 z.1 z.2 (c.end.ensures.answer (front ++ z.0) low z.3)

pub returns-in-Err-one_token-clause-answer : goal.returns-in-Err-one_token-clause-answer
returns-in-Err-one_token-clause-answer c = λ front low o.
    let i = c.loop-lex.invariant in
    let z = i.still_open front low o in
    answer_behind _ _ _ _ _ _ front z.0 _ (spot_of c.loop-lex.cursor) _ low _ _ _ i.text.0 (ap piece i.same_piece.0) i.same_piece.1 z.1 z.2 (c.in-Err-one_token.ensures.progress (front ++ z.0) low z.3 (λ h a. absurd (let q = sym (c.is_last.ensures.no (rw c.if-is_last.false refl)).1 ∙ h in cc)))

pub returns-in-Ok-AtBlock-clause-answer : goal.returns-in-Ok-AtBlock-clause-answer
returns-in-Ok-AtBlock-clause-answer c = λ front low o.
    let i = c.loop-lex.invariant in
    let z = i.still_open front low o in
    let p = rw c.in-Ok-AtBlock.field-0-is at c.in-Ok-AtBlock.ensures.progress in
    answer_behind _ _ _ _ _ _ front z.0 _ (spot_of c.loop-lex.cursor) _ low _ _ _ i.text.0 (ap piece i.same_piece.0) i.same_piece.1 z.1 z.2
    (block_answer _ (open_view c.loop-lex.pending) (piece_is c.loop-lex.pending.reading) (front ++ z.0) low _ (spot_of c.loop-lex.cursor) z.3 _ _ c.in-Ok.token _ (ap piece (sym c.in-Ok-AtBlock.ensures.piece.0)) (sym c.in-Ok-AtBlock.ensures.piece.1) (c.in-Ok-AtBlock.ensures.begun ∙ i.begun) (p (front ++ z.0) low z.3 (λ h a. absurd (let q = sym (c.is_last.ensures.no (rw c.if-is_last.false refl)).1 ∙ h in cc))))

pub loop-lex-preserved : goal.loop-lex-preserved
loop-lex-preserved c =
    let i = c.loop-lex.invariant in
    let d = c.in-Ok-Passed.ensures in
    let s = d.passed c.in-Ok-Passed.field-0-is in
    let no = c.is_last.ensures.no (rw c.if-is_last.false refl) in
    let p = rw c.in-Ok-Passed.field-0-is at d.progress in
    record {
      solid = s.1;
      begun = d.begun ∙ i.begun;
      awaits = s.2 ∙ i.awaits;
      text = (d.text.0 ∙ i.text.0, d.text.1 ∙ i.text.1);
      same_piece = (d.piece.0 ∙ i.same_piece.0, d.piece.1 ∙ i.same_piece.1);
      still_open = λ front low o.
          let z = i.still_open front low o in
          let w = p (front ++ z.0) low z.3 (λ h a. absurd (let q = sym no.1 ∙ h in cc)) in
          let x = open_behind _ _ _ (piece c.args.pending.now.reading) front z.0 c.in-Ok.token low _ _ (spot_of c.loop-lex.cursor) (spot_of c.one_token.new.cursor) i.text.0 (ap piece (d.piece.0 ∙ i.same_piece.0)) z.1 z.2 c.in-Ok.ensures.token no.0 w.0 (rw d.piece.0 (w.1 (ap hands (d.piece.0 ∙ i.same_piece.0) ∙ c.requires.piece))) w.2 in
          (x.0, x.1, x.2, rw d.text.0 x.3);
    }
