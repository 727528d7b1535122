-- Completions of the grammar that begin with a given token.
use Rattle.std.proofs.Common.{◌≡◌, ℕ, Bool, true, false, List, [], ◌∷◌, ◌++◌, refl, subst, sym, cond, Option, None, Some, ◌&&◌}
use Rattle.std.proofs.lemmas.Bool.{and_parts}
use Rattle.go_tree.specs.declared.token.Token.{Token}
use Rattle.go_tree.specs.declared.token.TokenKind.{TokenKind}
use Rattle.go_tree.specs.declared.token.TokenKind.TheVariants.{LeftBrace, RightBrace}
use Rattle.go_tree.specs.declared.production.Production.{Production}
use Rattle.go_tree.specs.declared.production.Production.TheVariants.{Block}
use Rattle.go_tree.specs.Grammar.RightSide.{RightSide, Call, When, Both}
use Rattle.go_tree.specs.Grammar.Tables.TokenKinds.{same_kind}
use Rattle.go_tree.specs.Grammar.Trees.Reading.{State, OpenNode}
use Rattle.go_tree.specs.Grammar.Tables.Completion.{Firm, spell, is_there, if_begun, text_or_none, completion, tokens_of}
use Rattle.go_tree.specs.Grammar.Tables.Rank.{top_rank}
use Rattle.go_tree.specs.Grammar.Trees.Sentence.{production, texts, ReadsGo}
use Rattle.go_tree.proofs.CompletionLemmas.{AreOf, tokens_are, same_both, firm_completes_by, text_completes_by}
use Rattle.go_tree.proofs.GrammarLemmas.{texts_right}

-- what is firm behind a block has a completion that begins with this `{`
pub block_begins : (bytes : List ℕ) (gs : List (RightSide Production)) → Firm texts top_rank (Call Block ∷ gs) → (t : Token) → t.kind ≡ LeftBrace → (p : ℕ) (fs : List OpenNode) → (more : List Token) × (e : State) × ReadsGo bytes (Call Block ∷ gs) (record { last = p; rest = t ∷ more; open_nodes = fs }) e × (e.rest ≡ [])
block_begins bytes gs firm t brace p fs =
    let rest = RightBrace ∷ completion texts top_rank gs in
    let same : same_kind LeftBrace t.kind ≡ true = subst (λ k. same_kind LeftBrace k ≡ true) (sym brace) refl in
    let z = firm_completes_by Production production bytes texts top_rank texts_right (Call Block ∷ gs) firm (t ∷ tokens_of rest) (same, tokens_are rest) p fs in
    (tokens_of rest, z.0, z.1, z.2)

-- a text that begins with two tokens begins with the first of them
pub begun_by_both : (i j : TokenKind) (o : Option (List TokenKind)) → is_there (if_begun (Both i j) o) ≡ true → (k : TokenKind) × (ks : List TokenKind) × (text_or_none (if_begun (Both i j) o) ≡ k ∷ ks) × (same_kind i k ≡ true)
begun_by_both i j None h = cc
begun_by_both i j (Some []) h = cc
begun_by_both i j (Some (k ∷ [])) h = cc
begun_by_both i j (Some (k ∷ (l ∷ ls))) h = go (same_kind i k && same_kind j l) refl h
  where
    go : (b : Bool) → (same_kind i k && same_kind j l) ≡ b → is_there (cond b (Some (k ∷ (l ∷ ls))) None) ≡ true → (m : TokenKind) × (ks : List TokenKind) × (text_or_none (cond b (Some (k ∷ (l ∷ ls))) None) ≡ m ∷ ks) × (same_kind i m ≡ true)
    go true q h = (k, l ∷ ls, refl, (and_parts (same_kind i k) (same_kind j l) q).0)
    go false q h = cc

-- where two tokens decide, what has a text and is firm behind it has a completion that begins with such a token
pub both_begins : (bytes : List ℕ) (i j : TokenKind) (g h : RightSide Production) (gs : List (RightSide Production)) → is_there (spell texts top_rank (When (Both i j) g h)) ≡ true → Firm texts top_rank gs → (t : Token) → same_kind i t.kind ≡ true → (p : ℕ) (fs : List OpenNode) → (more : List Token) × (e : State) × ReadsGo bytes (When (Both i j) g h ∷ gs) (record { last = p; rest = t ∷ more; open_nodes = fs }) e × (e.rest ≡ [])
both_begins bytes i j g h gs there firm t same p fs =
    let b = begun_by_both i j (spell texts top_rank g) there in
    let rest = b.1 ++ completion texts top_rank gs in
    let are : AreOf (completion texts top_rank (When (Both i j) g h ∷ gs)) (t ∷ tokens_of rest) =
    subst (λ x. AreOf (x ++ completion texts top_rank gs) (t ∷ tokens_of rest)) (sym b.2) (same_both i b.0 t.kind b.3 same, tokens_are rest) in
    let z = text_completes_by Production production bytes texts top_rank texts_right (When (Both i j) g h) gs there firm (t ∷ tokens_of rest) are p fs in
    (tokens_of rest, z.0, z.1, z.2)
