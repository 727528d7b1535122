-- The laws of the grammar.
use Rattle.std.proofs.Common.{◌≡◌, ℕ, List, [], ◌∷◌, ◌++◌, Bool, true, false, refl, sym, ap, ◌∙◌, Some, None, ◌&&◌, cond, nat_lt}
use Rattle.std.proofs.lemmas.Bool.{and_parts}
use Rattle.go_tree.specs.declared.token.Token.{Token}
use Rattle.go_tree.specs.declared.token.TokenKind.{TokenKind}
use Rattle.go_tree.specs.declared.production.Production.{Production}
use Rattle.go_tree.specs.Tree.{Tree}
use Rattle.go_tree.specs.Grammar.RightSide.{RightSide, Call, Act, Pass, Open, Reopen, Adopt, CheckType, Close, Ahead, OneOf, Both}
use Rattle.go_tree.specs.Grammar.Tables.TokenKinds.{same_kind}
use Rattle.go_tree.specs.Grammar.Trees.Reading.{does, calls, nothing, in_turn, left, right, done, again, chosen, passed_by, State, OpenNode, acted, looks, passed, tree_read, ends_in_type, next_start}
use Rattle.go_tree.specs.Grammar.Tables.Prediction.{AllDecided}
use Rattle.go_tree.specs.Grammar.Tables.Completion.{Firm, Held, spell, holds, is_there, completion, tokens_of}
use Rattle.go_tree.specs.Grammar.Tables.Rank.{rank, top_rank}
use Rattle.go_tree.specs.Grammar.Trees.Sentence.{production, tables, texts, ReadsGo, IsA, Derives}
use Rattle.go_tree.specs.Grammar.Trees.Fronts.{Leads, here, acts, enters, skips, unfolds, takes_left, takes_right, stops, repeats, looks_so, looks_not_so, Settles, CanAct, Passes}
use Rattle.go_tree.proofs.PredictionLemmas.{unique}
use Rattle.go_tree.proofs.CompletionLemmas.{firm_completes, firm_held}
use Rattle.go_tree.proofs.GrammarLemmas.{tables_right, texts_right}
use Rattle.go_tree.proofs.ByProduction.{by_test}

-- a token list has at most one tree
pub one_tree_lem : (bytes : List ℕ) (n : Production) (tokens : List Token) (t u : Tree) → Derives bytes n tokens t → Derives bytes n tokens u → t ≡ u
one_tree_lem bytes n tokens t u a b =
    let alone : AllDecided tables (Call n ∷ []) = ((λ k h. cc), tt) in
    let same = unique Production production bytes tables tables_right a.whole.reads alone b.whole.reads a.whole.all b.whole.all in
    let trees : Some t ≡ Some u = sym a.tree ∙ (ap (λ (e : State). tree_read e.open_nodes) same ∙ b.tree) in
    cc

-- what is open is completed by its completion
pub completes_lem : (bytes : List ℕ) (gs : List (RightSide Production)) → Firm texts top_rank gs → (last : ℕ) (open_nodes : List OpenNode) → (e : State) × ReadsGo bytes gs (record { last = last; rest = tokens_of (completion texts top_rank gs); open_nodes = open_nodes }) e × (e.rest ≡ [])
completes_lem bytes gs firm last open_nodes = firm_completes Production production bytes texts top_rank texts_right gs firm last open_nodes

-- the same state with more tokens behind the ones that are left
abbrev followed : State → List Token → State
followed s more = record { last = s.last; rest = s.rest ++ more; open_nodes = s.open_nodes }

settled : (a : Ahead) (ts more : List Token) → Settles a ts → looks a (ts ++ more) ≡ looks a ts
settled a [] more h = absurd h
settled (OneOf kinds) (t ∷ ts) more h = refl
settled (Both i j) (t ∷ []) [] h = refl
settled (Both i j) (t ∷ []) (u ∷ us) h = rw h refl
settled (Both i j) (t ∷ (u ∷ us)) more h = refl

passed_more : (k : TokenKind) (ts more : List Token) (fs : List OpenNode) (m : State) → passed k ts fs ≡ Some m → passed k (ts ++ more) fs ≡ Some (followed m more)
passed_more k [] more fs m h = cc
passed_more k (t ∷ ts) more fs m h = go (same_kind k t.kind) h
  where
    go : (b : Bool) → cond b (Some (record { last = t.end; rest = ts; open_nodes = fs })) None ≡ Some m → cond b (Some (record { last = t.end; rest = ts ++ more; open_nodes = fs })) None ≡ Some (followed m more)
    go true h = let q : record { last = t.end; rest = ts; open_nodes = fs } ≡ m = cc in ap (λ (x : State). Some (followed x more)) q
    go false h = cc

checked_more : (b : Bool) (s m : State) (more : List Token) → cond b (Some s) None ≡ Some m → cond b (Some (followed s more)) None ≡ Some (followed m more)
checked_more true s m more h = let q : s ≡ m = cc in ap (λ (x : State). Some (followed x more)) q
checked_more false s m more h = cc

start_more : (last : ℕ) (ts more : List Token) → CanAct Open ts → next_start last (ts ++ more) ≡ next_start last ts
start_more last [] more can = absurd can
start_more last (t ∷ ts) more can = refl

acted_more : (bytes : List ℕ) (a : Act) (s m : State) (more : List Token) → CanAct a s.rest → acted bytes a s ≡ Some m → acted bytes a (followed s more) ≡ Some (followed m more)
acted_more bytes (Pass k) s m more can h = passed_more k s.rest more s.open_nodes m h
acted_more bytes Open s m more can h =
    let q : record { last = s.last; rest = s.rest; open_nodes = record { start = next_start s.last s.rest; parts = [] } ∷ s.open_nodes } ≡ m = cc in
    ap (λ n. Some (record { last = s.last; rest = s.rest ++ more; open_nodes = record { start = n; parts = [] } ∷ s.open_nodes })) (start_more s.last s.rest more can) ∙ ap (λ (x : State). Some (followed x more)) q
acted_more bytes Reopen s m more can h = cc
acted_more bytes Adopt s m more can h = cc
acted_more bytes CheckType s m more can h = checked_more (ends_in_type s.open_nodes) s m more h
acted_more bytes (Close k) s m more can h = cc

-- what reads on from there, reads all
lead_reads : {bytes : List ℕ} {gs hs : List (RightSide Production)} {s m : State} → Leads Production production bytes gs s hs m → (more : List Token) (e : State) → ReadsGo bytes hs (followed m more) e → ReadsGo bytes gs (followed s more) e
lead_reads here more e r = r
lead_reads {bytes = bytes} {s = s} (acts {a = a} {m = m} can h d) more e r = does (acted_more bytes a s m more can h) (lead_reads d more e r)
lead_reads (enters d) more e r = calls (lead_reads d more e r)
lead_reads (skips d) more e r = nothing (lead_reads d more e r)
lead_reads (unfolds d) more e r = in_turn (lead_reads d more e r)
lead_reads (takes_left d) more e r = left (lead_reads d more e r)
lead_reads (takes_right d) more e r = right (lead_reads d more e r)
lead_reads (stops d) more e r = done (lead_reads d more e r)
lead_reads (repeats d) more e r = again (lead_reads d more e r)
lead_reads {s = s} (looks_so {a = a} w h d) more e r = chosen (settled a s.rest more w ∙ h) (lead_reads d more e r)
lead_reads {s = s} (looks_not_so {a = a} w h d) more e r = passed_by (settled a s.rest more w ∙ h) (lead_reads d more e r)

-- and what is open stays held
lead_held : {bytes : List ℕ} {gs hs : List (RightSide Production)} {s m : State} → Leads Production production bytes gs s hs m → Held texts top_rank gs → Held texts top_rank hs
lead_held here d = d
lead_held (acts {gs = gs} can h l) d = lead_held l (firm_held Production production [] texts top_rank gs d.1)
lead_held (enters {n = n} l) d = lead_held l (texts_right.parts n, d.1)
lead_held (skips {gs = gs} l) d = lead_held l (firm_held Production production [] texts top_rank gs d.1)
lead_held (unfolds {g = g} {h = h} l) d = let b = and_parts (holds texts top_rank g) (holds texts top_rank h && is_there (spell texts top_rank h)) d.0 in let c = and_parts (holds texts top_rank h) (is_there (spell texts top_rank h)) b.1 in lead_held l (b.0, (c.0, c.1, d.1))
lead_held (takes_left {g = g} {h = h} l) d = lead_held l ((and_parts (holds texts top_rank g) (holds texts top_rank h) d.0).0, d.1)
lead_held (takes_right {g = g} {h = h} l) d = lead_held l ((and_parts (holds texts top_rank g) (holds texts top_rank h) d.0).1, d.1)
lead_held (stops {gs = gs} l) d = lead_held l (firm_held Production production [] texts top_rank gs d.1)
lead_held (repeats l) d = lead_held l (d.0, (d.0, refl, d.1))
lead_held (looks_so {g = g} {h = h} w q l) d = lead_held l ((and_parts (holds texts top_rank g) (holds texts top_rank h) d.0).0, d.1)
lead_held (looks_not_so {g = g} {h = h} w q l) d = lead_held l ((and_parts (holds texts top_rank g) (holds texts top_rank h) d.0).1, d.1)

ranked : (n : Production) → nat_lt (rank n) top_rank ≡ true
ranked = by_test _ refl

call_held : (n : Production) → Held texts top_rank (Call n ∷ [])
call_held n = (ranked n, tt)

-- the tokens that a reading passes begin an n, and the completion of what is open completes it
pub front_lem : (bytes : List ℕ) (n : Production) (front : List Token) (hs : List (RightSide Production)) → Passes bytes n front hs → IsA bytes n (front ++ tokens_of (completion texts top_rank hs))
front_lem bytes n front hs p =
    let more = tokens_of (completion texts top_rank hs) in
    let firm = (lead_held p.leads (call_held n)).1 in
    let rest = completes_lem bytes hs firm p.token.end p.at.open_nodes in
    let step : acted bytes (Pass p.kind) (followed p.at more) ≡ Some (record { last = p.token.end; rest = more; open_nodes = p.at.open_nodes }) = rw (p.last, p.same) refl in
    record { end = rest.0; reads = lead_reads p.leads more rest.0 (does step rest.1); all = rest.2 }
