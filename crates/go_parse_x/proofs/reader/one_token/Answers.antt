use Rattle.std.proofs.Common.{ℕ, ◌∷◌, [], ◌++◌, Some, refl, sym, ap, subst, ◌∙◌}
use Rattle.go_parse_x.specs.Targets.{hands}
use Rattle.go_tree.specs.declared.token.Token.{Token}
use Rattle.go_scan.proofs.NextLemmas.{one_next}
use Rattle.go_parse_x.specs.Answers.{spot_of}
use Rattle.go_parse_x.specs.Tables.Lines.{sides}
use Rattle.go_parse_x.specs.Tables.Opened.{frames, numbers, Rises}
use Rattle.go_parse_x.specs.Pieces.{View, open_view, IsOpen, IsAwaiting}
use Rattle.go_parse_x.specs.Machine.Turns.{IsSolid}
use Rattle.go_parse_x.proofs.PieceLemmas.{piece_is}
use Rattle.go_parse_x.proofs.OpenLemmas.{passed_open, block_awaits, block_goes}
use Rattle.go_parse_x.proofs.NoBlockLemmas.{passed_no_block}
use Rattle.go_parse_x.proofs.TurnLemmas.{solid_sound, same_goes_on}
use Rattle.go_parse_x.proofs.AnswerLemmas.{memory_answer, on_ok, ok_alone, if_ok, stuck_answer, stray_answer, astray_answer, passed_progress, block_progress}
use Rattle.go_parse_x.proofs.reader.one_token.Goals as goal

pub returns-in-Ok-Passed-clause-progress : goal.returns-in-Ok-Passed-clause-progress
returns-in-Ok-Passed-clause-progress c = λ front low o no_piece.
    let v = open_view c.args.pending.now in
    let is = piece_is c.args.pending.now.reading in
    let s = spot_of c.args.cursor.now in
    let t = rw c.in-Ok-Passed.field-0-is at c.in-Ok-Passed.ensures.turn in
    let P : View → Type 0 = λ x. IsOpen c.args.cursor.now.bytes.now x (front ++ c.args.token ∷ []) low c.pass.new.cursor.number c.args.token.end (Some c.args.token.kind) in
    let N : ℕ → Type 0 = λ n. Rises low (numbers c.settle.new.opened.items) n in
    let rises = subst N (sym c.pass.ensures.others.1) (c.in-Ok-Passed.ensures.numbers low o.rises) in
    passed_progress _ v is front low _ s o c.pass.new.cursor.number c.pass.new.pending _ refl c.requires.next t.3 _ _ c.pass.ensures.passed c.pass.ensures.high
    (λ over. let old_over = ap hands (sym c.pass.ensures.stays.3) ∙ over in passed_no_block _ v.n front o.assumed _ v.rest (sides c.settle.new.todo.items) v.nodes (frames c.settle.new.opened.items) t.0 o.reads (o.next c.args.token c.requires.next) (c.hands_over.ensures ∙ old_over) (o.braced old_over) t.1 t.2)
    (on_ok c.pass.result (λ counts fits. subst P (sym c.pass.ensures.view) (
    passed_open _ v is front low _ s.at s.last o _ refl c.requires.next
    (λ kind q u w. let z = c.ahead.ensures.some kind q in ap (λ (x : Token). x.kind) (one_next _ _ _ u z.0 w z.1) ∙ z.2)
    t.0 (sides c.settle.new.todo.items) (frames c.settle.new.opened.items) (λ h. c.hands_over.ensures ∙ h) t.1 t.2 t.3 (solid_sound _ c.requires.solid)
    c.pass.new.pending.heights (numbers c.settle.new.opened.items) _ (counts front o.counts) (fits front o.counts) rises
    )) c.pass.ensures.counts c.pass.ensures.fits)

pub returns-in-Ok-Passed-clause-passed : goal.returns-in-Ok-Passed-clause-passed
returns-in-Ok-Passed-clause-passed c =
    let t = rw c.in-Ok-Passed.field-0-is at c.in-Ok-Passed.ensures.turn in
    let solid = t.1.solid (solid_sound _ c.requires.solid) in
    let new : IsSolid (sides c.pass.new.pending.todo.items) = rw c.pass.ensures.stays.0 solid in
    if_ok c.pass.result (λ a h q. (h.1, new, c.pass.ensures.stays.2)) c.pass.ensures.passed

pub returns-in-Ok-Stuck-clause-progress : goal.returns-in-Ok-Stuck-clause-progress
returns-in-Ok-Stuck-clause-progress c = λ front low o no_piece.
    let t = rw c.in-Ok-Stuck.field-0-is at c.in-Ok-Stuck.ensures.turn in
    stuck_answer _ (open_view c.args.pending.now) (piece_is c.args.pending.now.reading) front low _ (spot_of c.args.cursor.now) o _ _ _ refl c.requires.next t (solid_sound _ c.requires.solid) no_piece

pub returns-in-Ok-Astray-clause-progress : goal.returns-in-Ok-Astray-clause-progress
returns-in-Ok-Astray-clause-progress c = λ front low o no_piece.
    let t = rw c.in-Ok-Astray.field-0-is at c.in-Ok-Astray.ensures.turn in
    astray_answer _ (open_view c.args.pending.now) (piece_is c.args.pending.now.reading) front low _ (spot_of c.args.cursor.now) o _ _ _ refl c.requires.next c.requires.more t.0 t.3 t.2
    (λ u w. let z = c.ahead.ensures.some t.0 t.1 in ap (λ (x : Token). x.kind) (one_next _ _ _ u z.0 w z.1) ∙ z.2)
    _ _ c.stray.ensures.stray

pub returns-in-Ok-Unseen-clause-progress : goal.returns-in-Ok-Unseen-clause-progress
returns-in-Ok-Unseen-clause-progress c = λ front low o no_piece.
    let t = rw c.in-Ok-Unseen.field-0-is at c.in-Ok-Unseen.ensures.turn in
    stray_answer _ (open_view c.args.pending.now) (piece_is c.args.pending.now.reading) front low _ (spot_of c.args.cursor.now) o _ _ _ refl c.requires.next c.requires.more t.1
    (λ u w b. c.ahead.ensures.none t.0 t.1.asked u w)
    _ _ c.stray-in-Ok-Unseen.ensures.stray

pub returns-in-Ok-AtBlock-clause-progress : goal.returns-in-Ok-AtBlock-clause-progress
returns-in-Ok-AtBlock-clause-progress c = λ front low o no_piece.
    let v = open_view c.args.pending.now in
    let is = piece_is c.args.pending.now.reading in
    let s = spot_of c.args.cursor.now in
    let t = rw c.in-Ok-AtBlock.field-0-is at c.in-Ok-AtBlock.ensures.turn in
    let sound = solid_sound _ c.requires.solid in
    let P : View → Type 0 = λ x. IsAwaiting c.args.cursor.now.bytes.now x front low c.settle.new.number s.at s.last in
    block_progress _ v is front low _ s o c.settle.new.number c.hand_over.new.pending _ refl c.requires.next (same_goes_on _ _ _ _ _ _ t.0 (block_goes _ _ _ _ (t.0.sound sound) t.1)) _ c.hand_over.ensures.block (ap hands c.hand_over.ensures.stays.1 ∙ (sym c.hands_over.ensures ∙ t.1.over)) c.hand_over.ensures.high
    (ok_alone c.hand_over.result (λ fits. subst P (sym c.hand_over.ensures.view) (
    block_awaits _ v is front low _ s.at s.last o _ refl c.requires.next (sides c.settle.new.todo.items) (frames c.settle.new.opened.items) (λ h. c.hands_over.ensures ∙ h) t.0 t.1 sound (numbers c.settle.new.opened.items) _ (fits front o.counts) (c.in-Ok-AtBlock.ensures.numbers low o.rises)
    )) c.hand_over.ensures.fits)

pub returns-in-Err-clause-progress : goal.returns-in-Err-clause-progress
returns-in-Err-clause-progress c = λ front low o no_piece.
    memory_answer _ (open_view c.args.pending.now) (piece_is c.args.pending.now.reading) front low _ (spot_of c.args.cursor.now) o _ _
