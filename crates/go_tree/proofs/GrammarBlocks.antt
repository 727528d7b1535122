-- The tokens of a block stand in braces: heights in it, and behind it.
use Rattle.std.proofs.Common.{◌≡◌, ℕ, ◌+◌, ◌<◌, List, [], ◌∷◌, ◌++◌, length, Some, refl, ap, sym, ◌∙◌, append_assoc}
use Rattle.go_tree.specs.declared.token.Token.{Token}
use Rattle.go_tree.specs.declared.token.TokenKind.TheVariants.{LeftBrace, RightBrace, End}
use Rattle.go_tree.specs.declared.node_kind.NodeKind.{NodeKind}
use Rattle.go_tree.specs.declared.node_kind.NodeKind.TheVariants as k
use Rattle.go_tree.specs.declared.production.Production.{Production}
use Rattle.go_tree.specs.declared.production.Production.TheVariants.{Block, Stmt}
use Rattle.go_tree.specs.Height.{counted, height_of, Passing}
use Rattle.go_tree.specs.Grammar.RightSide.{RightSide, Do, Call, Act, Pass, Open, Close}
use Rattle.go_tree.specs.Grammar.Words.{◌•◌, tok, opt, the, many, semi, open_node, close}
use Rattle.go_tree.specs.Grammar.Trees.Reading.{State, before, at_end, does, calls, acted}
use Rattle.go_tree.specs.Grammar.Trees.Sentence.{production, ReadsGo, IsA}
use Rattle.go_tree.proofs.ReadingLemmas.{split, in_turn_of}
use Rattle.go_tree.specs.Grammar.Tables.Brackets.{through_all, standing}
use Rattle.go_tree.proofs.GrammarBrackets.{brackets_expand}
use Rattle.go_tree.proofs.NestingLemmas.{behind_tokens, tokens_joined, passed_token, nested}
use Rattle.go_tree.proofs.EnclosedHeights.{InBraces, braces_counted, braces_heights}

called : (n : Production) (gs : List (RightSide Production)) (l m : ℕ) → through_all standing (Call n ∷ gs) l ≡ Some m → through_all standing (production n ∷ gs) l ≡ Some m
called n gs l m h = brackets_expand (Call n) gs (record { kind = End; start = 0; end = 0 }) [] l m h

-- behind the tokens of what a production reads no bracket is open that was not before, and none is closed
pub level_tokens : (bytes : List ℕ) (gs : List (RightSide Production)) (s e : State) → ReadsGo bytes gs s e → (l m : ℕ) → through_all standing gs l ≡ Some m → (ts : List Token) × (s.rest ≡ ts ++ e.rest) × (behind_tokens ts l ≡ Some m)
level_tokens bytes gs s e d l m h = let n = nested Production production bytes standing called d l m h in (n.tokens, n.are, n.behind)

-- ---- steps of a reading

entered : (bytes : List ℕ) (n : Production) (gs : List (RightSide Production)) (s e : State) → ReadsGo bytes (Call n ∷ gs) s e → ReadsGo bytes (production n ∷ gs) s e
entered bytes n gs s e (calls d) = d

acts : (bytes : List ℕ) (a : Act) (gs : List (RightSide Production)) (s e : State) → ReadsGo bytes (Do a ∷ gs) s e → (m : State) × (acted bytes a s ≡ Some m) × ReadsGo bytes gs m e
acts bytes a gs s e (does {m = m} h d) = (m, h, d)

ends : (bytes : List ℕ) (s e : State) → ReadsGo bytes [] s e → s ≡ e
ends bytes s e at_end = refl

opened_rest : (bytes : List ℕ) (s m : State) → acted bytes Open s ≡ Some m → s.rest ≡ m.rest
opened_rest bytes s m h = cc

closed_rest : (bytes : List ℕ) (kind : NodeKind) (s m : State) → acted bytes (Close kind) s ≡ Some m → s.rest ≡ m.rest
closed_rest bytes kind s m h = cc

-- braces with right sides between them that leave no bracket open
in_braces : (bytes : List ℕ) (g h : RightSide Production) (kind : NodeKind) (s e : State) → ReadsGo bytes ((open_node • ((tok LeftBrace • (g • (h • tok RightBrace))) • close kind)) ∷ []) s e → through_all standing (g ∷ []) 0 ≡ Some 0 → through_all standing (h ∷ []) 0 ≡ Some 0 → e.rest ≡ [] → InBraces s.rest
in_braces bytes g h kind s e d level_g level_h all =
    let rest = (tok LeftBrace • (g • (h • tok RightBrace))) • close kind in
    let end = close kind ∷ [] in
    let a = acts bytes Open (rest ∷ []) s e (in_turn_of d) in
    let s1 = a.0 in
    let b = in_turn_of (in_turn_of a.2) in
    let c = acts bytes (Pass LeftBrace) ((g • (h • tok RightBrace)) ∷ end) s1 e b in
    let s2 = c.0 in
    let first = passed_token LeftBrace s1.rest s1.open_nodes s2 c.1 in
    let one = split Production production bytes (in_turn_of c.2) (g ∷ []) ((h • tok RightBrace) ∷ end) refl in
    let s3 = one.0 in
    let two = split Production production bytes (in_turn_of one.2) (h ∷ []) (tok RightBrace ∷ end) refl in
    let s4 = two.0 in
    let l = acts bytes (Pass RightBrace) end s4 e two.2 in
    let s5 = l.0 in
    let last = passed_token RightBrace s4.rest s4.open_nodes s5 l.1 in
    let f = acts bytes (Close kind) [] s5 e l.2 in
    let s6 = f.0 in
    let over : s5.rest ≡ [] = closed_rest bytes kind s5 s6 f.1 ∙ (ap (λ (x : State). x.rest) (ends bytes s6 e f.2) ∙ all) in
    let x = level_tokens bytes (g ∷ []) s2 s3 one.1 0 0 level_g in
    let y = level_tokens bytes (h ∷ []) s3 s4 two.1 0 0 level_h in
    let closing : s4.rest ≡ last.0 ∷ [] = last.1 ∙ ap (λ ts. last.0 ∷ ts) over in
    let middle : s2.rest ≡ (x.0 ++ y.0) ++ last.0 ∷ [] = x.1 ∙ (ap (λ ts. x.0 ++ ts) (y.1 ∙ ap (λ ts. y.0 ++ ts) closing) ∙ sym (append_assoc x.0 y.0 (last.0 ∷ []))) in
    record {
      opening = first.0;
      inside = x.0 ++ y.0;
      closing = last.0;
      are = opened_rest bytes s s1 a.1 ∙ (first.1 ∙ ap (λ ts. first.0 ∷ ts) middle);
      opens = sym first.2;
      closes = sym last.2;
      level = tokens_joined x.0 y.0 0 0 0 x.2 y.2;
    }

pub block_braces : (bytes : List ℕ) (bs : List Token) → IsA bytes Block bs → InBraces bs
block_braces bytes bs d = in_braces bytes (opt (the Stmt)) (many (semi • opt (the Stmt))) k.Block (before bs) d.end (entered bytes Block [] (before bs) d.end d.reads) refl refl d.all

-- behind a block its two braces count, and of what stands between them nothing
pub block_counts : (bytes : List ℕ) (ts bs : List Token) → IsA bytes Block bs → ((counted (ts ++ bs)).marks ≡ Passing ∷ (Passing ∷ (counted ts).marks)) × ((counted (ts ++ bs)).last ≡ Some RightBrace)
block_counts bytes ts bs d = braces_counted ts bs (block_braces bytes bs d)

-- the height at a token of a block is its height in the block alone, and the height before the block
pub block_heights : (bytes : List ℕ) (ts bs front rest : List Token) → IsA bytes Block bs → bs ≡ front ++ rest → 0 < length front → height_of (ts ++ front) ≡ height_of ts + height_of front
block_heights bytes ts bs front rest d q some = braces_heights ts bs front rest (block_braces bytes bs d) q some
