-- The blocks `{}` and `{ return }` are blocks.
use Rattle.go_parse_x.specs.Targets.{hands}
use Rattle.std.proofs.Common.{◌≡◌, ℕ, ◌+◌, ◌≤◌, ◌-◌, true, List, [], ◌∷◌, ◌∙◌, Option, refl, subst, sym, ap, length, arith}
use Rattle.go_tree.specs.declared.node.Node.{Node}
use Rattle.go_tree.specs.declared.node_kind.NodeKind.TheVariants as k
use Rattle.go_tree.specs.declared.token.Token.{Token}
use Rattle.go_tree.specs.declared.token.TokenKind.{TokenKind}
use Rattle.go_tree.specs.declared.token.TokenKind.TheVariants.{KwReturn, LeftBrace, RightBrace}
use Rattle.go_tree.specs.declared.production.Production.TheVariants as p
use Rattle.go_tree.specs.declared.token_height.Role.TheVariants.{Counts}
use Rattle.go_tree.specs.Height.{Mark, Counted, counted, counted_at, marks_behind, role_of, height_of, AllFit}
use Rattle.go_tree.specs.Tree.{Tree, branch, no_trees, more_trees}
use Rattle.go_tree.specs.Grammar.Tables.TokenKinds.{same_kind}
use Rattle.go_tree.specs.Grammar.Trees.Reading.{OpenNode, close_last, at_end, does, calls, nothing, in_turn, left, right, done}
use Rattle.go_tree.specs.Grammar.Trees.Sentence.{IsA, Derives}
use Rattle.go_tree.proofs.GrammarBlocks.{block_counts}
use Rattle.go_parse_x.specs.declared.cursor.Cursor.{Cursor}
use Rattle.go_parse_x.specs.declared.pending.Pending.{Pending}
use Rattle.go_parse_x.specs.Answers.{spot_of, IsBlockRead}
use Rattle.go_parse_tests.specs.HandedBlocks.{IsEmptyBlock, IsReturnBlock}
use Rattle.go_parse_x.specs.Tables.Opened.{unnumbered, numbers_in, Rises}
use Rattle.go_parse_x.specs.Pieces.{IsAwaiting, open_view}
use Rattle.go_tree.specs.Lexical.Scan.{Stand}
use Rattle.go_parse_x.specs.Machine.Turns.{at}
use Rattle.go_parse_tests.proofs.CountLemmas.{brace_height}

abbrev root : List OpenNode
root = record { start = 0; parts = [] } ∷ []

same_as : (j l : TokenKind) → l ≡ j → same_kind j j ≡ true → same_kind j l ≡ true
same_as j l q h = subst (λ x. same_kind j x ≡ true) (sym q) h

empty_derives : (bytes : List ℕ) (t u : Token) → t.kind ≡ LeftBrace → u.kind ≡ RightBrace → Derives bytes p.Block (t ∷ (u ∷ [])) (branch 0 t.start u.end k.Block [] no_trees)
empty_derives bytes t u opens closes =
    let first = same_as LeftBrace t.kind opens refl in
    let last = same_as RightBrace u.kind closes refl in
    let opened = record { start = t.start; parts = [] } ∷ root in
    let closed = close_last bytes k.Block u.end opened in
    let close = does {m = at u.end [] closed} refl at_end in
    let right_brace = does {m = at u.end [] opened} (rw last refl) close in
    let left_brace = does {m = at t.end (u ∷ []) opened} (rw first refl) (in_turn (right (nothing (in_turn (done right_brace))))) in
    record {
      whole = record { end = at u.end [] closed; reads = calls (in_turn (does {m = at 0 (t ∷ (u ∷ [])) opened} refl (in_turn (in_turn left_brace)))); all = refl };
      tree = refl;
    }

two_high : (bytes : List ℕ) (t u : Token) → IsA bytes p.Block (t ∷ (u ∷ [])) → height_of (t ∷ (u ∷ [])) ≡ 2
two_high bytes t u is = ap (λ (ms : List Mark). length ms) (block_counts bytes [] (t ∷ (u ∷ [])) is).0

empty_fits : (bytes : List ℕ) (free : ℕ) (t u : Token) → t.kind ≡ LeftBrace → IsA bytes p.Block (t ∷ (u ∷ [])) → 2 ≤ free → AllFit free (t ∷ (u ∷ []))
empty_fits bytes free t u opens is le [] ys q = omega arith
empty_fits bytes free t u opens is le (x ∷ []) ys q =
    let w : t ≡ x = cc in
    let h = brace_height [] t opens in
    subst (λ z. height_of (z ∷ []) ≤ free) w (omega (arith, h, le))
empty_fits bytes free t u opens is le (x ∷ (y ∷ [])) ys q =
    let w : t ∷ (u ∷ []) ≡ x ∷ (y ∷ []) = cc in
    let h = two_high bytes t u is in
    subst (λ z. height_of z ≤ free) w (omega (arith, h, le))
empty_fits bytes free t u opens is le (x ∷ (y ∷ (z ∷ xs))) ys q = cc

-- what the tests hand in is the block that is awaited: `{}`
pub empty_read : (c d : Cursor) (pending : Pending) (front : List Token) (low : ℕ) (node : Node) → pending.begun ≡ true → hands pending.reading ≡ true → IsAwaiting c.bytes.now (open_view pending) front low c.number c.at c.last → IsEmptyBlock c d node → d.bytes.now ≡ c.bytes.now → 2 ≤ pending.free - height_of front → IsBlockRead d pending front low node
empty_read c d pending front low node begun piece a e q le =
    let tokens = e.opening ∷ (e.closing ∷ []) in
    let A : List ℕ → Type 0 = λ b. IsAwaiting b (open_view pending) front low c.number c.at c.last in
    let S : List ℕ → Type 0 = λ b. Stand b c.at c.last tokens d.at d.last in
    let T : Tree → Type 0 = λ t. Derives d.bytes.now p.Block tokens (unnumbered t) in
    let R : Tree → Type 0 = λ t. Rises c.number (numbers_in t) d.number in
    let derived = empty_derives d.bytes.now e.opening e.closing e.opens e.closes in
    let number = e.number in
    record {
      begun = begun;
      piece = piece;
      number = c.number;
      spot = spot_of c;
      awaits = subst A (sym q) a;
      tokens = tokens;
      stand = subst S (sym q) e.stand;
      tree = subst T (sym e.tree) derived;
      fits = empty_fits d.bytes.now (pending.free - height_of front) e.opening e.closing e.opens derived.whole le;
      rises = subst R (sym e.tree) (omega arith, omega (arith, number));
    }

return_derives : (bytes : List ℕ) (t w u : Token) → t.kind ≡ LeftBrace → w.kind ≡ KwReturn → u.kind ≡ RightBrace → Derives bytes p.Block (t ∷ (w ∷ (u ∷ []))) (branch 0 t.start u.end k.Block [] (more_trees (branch 0 w.start w.end k.ReturnStmt [] no_trees) no_trees))
return_derives bytes t w u opens returns closes =
    let first = same_as LeftBrace t.kind opens refl in
    let middle = same_as KwReturn w.kind returns refl in
    let last = same_as RightBrace u.kind closes refl in
    let opened = record { start = t.start; parts = [] } ∷ root in
    let begun = record { start = w.start; parts = [] } ∷ opened in
    let ended = close_last bytes k.ReturnStmt w.end begun in
    let closed = close_last bytes k.Block u.end ended in
    let close = does {m = at u.end [] closed} refl at_end in
    let right_brace = does {m = at u.end [] ended} (rw last refl) close in
    let behind = does {m = at w.end (u ∷ []) ended} refl (in_turn (done right_brace)) in
    let word = does {m = at w.end (u ∷ []) begun} (rw middle refl) (right (nothing behind)) in
    let statement = in_turn (does {m = at t.end (w ∷ (u ∷ [])) begun} refl (in_turn (in_turn word))) in
    let chosen = right (right (right (right (right (left statement))))) in
    let left_brace = does {m = at t.end (w ∷ (u ∷ [])) opened} (rw first refl) (in_turn (left (calls chosen))) in
    record {
      whole = record { end = at u.end [] closed; reads = calls (in_turn (does {m = at 0 (t ∷ (w ∷ (u ∷ []))) opened} refl (in_turn (in_turn left_brace)))); all = refl };
      tree = refl;
    }

return_counts : (kind : TokenKind) (last before : Option TokenKind) → kind ≡ KwReturn → role_of kind last before ≡ Counts
return_counts kind last before q = rw q refl

one_more : (c : Counted) (w : Token) → w.kind ≡ KwReturn → length (counted_at c w).marks ≡ length c.marks + 1
one_more c w q =
    let h : length (counted_at c w).marks ≡ length (marks_behind c.marks Counts) = ap (λ r. length (marks_behind c.marks r)) (return_counts w.kind c.last c.before q) in
    let g : length (marks_behind c.marks Counts) ≡ length c.marks + 1 = omega arith in
    h ∙ g

return_fits : (bytes : List ℕ) (free : ℕ) (t w u : Token) → t.kind ≡ LeftBrace → w.kind ≡ KwReturn → IsA bytes p.Block (t ∷ (w ∷ (u ∷ []))) → 2 ≤ free → AllFit free (t ∷ (w ∷ (u ∷ [])))
return_fits bytes free t w u opens returns is le [] ys q = omega arith
return_fits bytes free t w u opens returns is le (x ∷ []) ys q =
    let e : t ≡ x = cc in
    let h = brace_height [] t opens in
    subst (λ z. height_of (z ∷ []) ≤ free) e (omega (arith, h, le))
return_fits bytes free t w u opens returns is le (x ∷ (y ∷ [])) ys q =
    let e : t ∷ (w ∷ []) ≡ x ∷ (y ∷ []) = cc in
    let h = brace_height [] t opens in
    let g : height_of (t ∷ (w ∷ [])) ≡ height_of (t ∷ []) + 1 = one_more (counted (t ∷ [])) w returns in
    subst (λ z. height_of z ≤ free) e (omega (arith, h, g, le))
return_fits bytes free t w u opens returns is le (x ∷ (y ∷ (z ∷ []))) ys q =
    let e : t ∷ (w ∷ (u ∷ [])) ≡ x ∷ (y ∷ (z ∷ [])) = cc in
    let h : height_of (t ∷ (w ∷ (u ∷ []))) ≡ 2 = ap (λ (ms : List Mark). length ms) (block_counts bytes [] (t ∷ (w ∷ (u ∷ []))) is).0 in
    subst (λ z. height_of z ≤ free) e (omega (arith, h, le))
return_fits bytes free t w u opens returns is le (x ∷ (y ∷ (z ∷ (v ∷ vs)))) ys q = cc

-- and so is `{ return }`
pub return_read : (c d : Cursor) (pending : Pending) (front : List Token) (low : ℕ) (node : Node) → pending.begun ≡ true → hands pending.reading ≡ true → IsAwaiting c.bytes.now (open_view pending) front low c.number c.at c.last → IsReturnBlock c d node → d.bytes.now ≡ c.bytes.now → 2 ≤ pending.free - height_of front → IsBlockRead d pending front low node
return_read c d pending front low node begun piece a e q le =
    let tokens = e.opening ∷ (e.word ∷ (e.closing ∷ [])) in
    let A : List ℕ → Type 0 = λ b. IsAwaiting b (open_view pending) front low c.number c.at c.last in
    let S : List ℕ → Type 0 = λ b. Stand b c.at c.last tokens d.at d.last in
    let T : Tree → Type 0 = λ t. Derives d.bytes.now p.Block tokens (unnumbered t) in
    let R : Tree → Type 0 = λ t. Rises c.number (numbers_in t) d.number in
    let derived = return_derives d.bytes.now e.opening e.word e.closing e.opens e.returns e.closes in
    let number = e.number in
    record {
      begun = begun;
      piece = piece;
      number = c.number;
      spot = spot_of c;
      awaits = subst A (sym q) a;
      tokens = tokens;
      stand = subst S (sym q) e.stand;
      tree = subst T (sym e.tree) derived;
      fits = return_fits d.bytes.now (pending.free - height_of front) e.opening e.word e.closing e.opens e.returns derived.whole le;
      rises = subst R (sym e.tree) (omega arith, (omega arith, omega (arith, number)));
    }
