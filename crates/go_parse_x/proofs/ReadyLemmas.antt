-- When `parse_expr` can be called, and `give` again.
use Rattle.std.proofs.Common.{ℕ, ◌≤◌, ◌-◌, List, [], sym, ap, subst, ◌∙◌}
use Rattle.go_tree.specs.declared.node.Node.{Node}
use Rattle.go_tree.specs.declared.token.Token.{Token}
use Rattle.go_tree.specs.Height.{height_of, AllFit}
use Rattle.go_parse_x.specs.declared.cursor.Cursor.{Cursor}
use Rattle.go_parse_x.specs.declared.pending.Pending.{Pending}
use Rattle.go_parse_x.specs.Answers.{IsReady, IsBlockRead}
use Rattle.go_parse_x.specs.Pieces.{View, IsNew, IsKept, IsAwaiting}
use Rattle.std.specs.Prelude.{◌≡◌, true}
use Rattle.go_parse_x.specs.Targets.{hands}
use Rattle.go_parse_x.proofs.OpenLemmas.{first_open}

-- for a piece of which nothing is read, wherever the cursor stands
pub ready_first : (c : Cursor) (p : Pending) (low : ℕ) → IsNew p → hands p.reading ≡ true → low ≤ c.number → IsReady c p [] low
ready_first c p low new over le = record { awaits = new.awaits; piece = over; is_open = first_open c.bytes.now p low c.number c.at c.last new le }

-- a block that was read can be given to a value that is kept
pub given_again : (c : Cursor) (old new : Pending) (front : List Token) (low : ℕ) (block : Node) → IsKept old new → IsBlockRead c old front low block → IsBlockRead c new front low block
given_again c old new front low block k r = record {
  begun = k.begun ∙ r.begun;
  piece = ap (λ (v : View). v.hands_over) k.view ∙ r.piece;
  number = r.number;
  spot = r.spot;
  awaits = subst (λ v. IsAwaiting c.bytes.now v front low r.number r.spot.at r.spot.last) (sym k.view) r.awaits;
  tokens = r.tokens;
  stand = r.stand;
  tree = r.tree;
  fits = subst (λ n. AllFit (n - height_of front) r.tokens) (sym (ap (λ (v : View). v.free) k.view)) r.fits;
  rises = r.rises;
}
