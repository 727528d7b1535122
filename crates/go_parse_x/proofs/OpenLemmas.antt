-- One more token of a piece, and its first.
use Rattle.std.proofs.Common.{not, ◌≡◌, ℕ, ◌≤◌, Bool, true, false, ◌&&◌, List, [], ◌∷◌, ◌++◌, Option, None, Some, refl, subst, sym, ap, cond}
use Rattle.go_tree.specs.declared.token.Token.{Token}
use Rattle.go_tree.specs.declared.token.TokenKind.{TokenKind}
use Rattle.go_tree.specs.declared.token.TokenKind.TheVariants.{LeftBrace, Semicolon}
use Rattle.go_tree.specs.declared.production.Production.{Production}
use Rattle.go_tree.specs.Height.{height_of}
use Rattle.go_tree.specs.Lexical.Scan.{IsNext}
use Rattle.go_tree.specs.Grammar.RightSide.{RightSide, Call}
use Rattle.go_tree.specs.Grammar.Trees.Reading.{State, OpenNode, calls, before}
use Rattle.go_tree.specs.Grammar.Tables.Brackets.{through_all, standing}
use Rattle.go_tree.specs.Grammar.Tables.Completion.{completion, tokens_of, spell, is_there}
use Rattle.go_tree.specs.Grammar.Tables.Prediction.{AllDecided, starts}
use Rattle.go_tree.specs.Grammar.Tables.Rank.{top_rank}
use Rattle.go_tree.specs.Grammar.Trees.Sentence.{production, tables, texts, ReadsGo, Begins}
use Rattle.go_tree.proofs.PredictionLemmas.{call_decided}
use Rattle.go_tree.proofs.GrammarLemmas.{tables_right, texts_right}
use Rattle.go_tree.proofs.GrammarBrackets.{brackets_start, brackets_expand}
use Rattle.go_tree.proofs.GrammarStarts.{each_begins}
use Rattle.go_tree.proofs.GrammarCompletions.{block_begins}
use Rattle.go_tree.proofs.SentenceLemmas.{completes_lem}
use Rattle.go_parse_x.specs.declared.heights.Heights.{Heights}
use Rattle.go_parse_x.specs.declared.pending.Pending.{Pending}
use Rattle.go_parse_x.specs.declared.reading.Reading.{Reading}
use Rattle.go_parse_x.specs.declared.reading.Target.{Target}
use Rattle.go_parse_x.specs.declared.reading.Target.TheVariants as target
use Rattle.go_parse_x.specs.Targets.{reads, piece, hands}
use Rattle.go_parse_x.specs.declared.reading.Reading.TheVariants.{Plain, Header, TypeOnly, Signature, Params, TypeParams}
use Rattle.go_parse_x.specs.declared.seen.Seen.{Seen}
use Rattle.go_parse_x.specs.Machine.Braces.{is_brace, is_braced, all_braced}
use Rattle.go_parse_x.specs.Machine.Heights.{Counts}
use Rattle.go_parse_x.specs.Tables.Opened.{Rises}
use Rattle.go_parse_x.specs.Pieces.{HasRead, View, open_view, new_view, view_of, IsNew, IsAsked, IsOpen, IsAwaiting}
use Rattle.go_parse_x.specs.Texts.{none, one}
use Rattle.go_parse_x.specs.Machine.Turns.{at, IsAsSeen, IsSound, IsSolid, GoesOn, IsSame, IsPassed, IsAssumed, IsAtBlock}
use Rattle.go_parse_x.proofs.PieceLemmas.{IsPiece, piece_is, seen_on, fits_on, none_fits, reads_begin, goes_begin, passed_read}
use Rattle.go_parse_x.proofs.SpelledLemmas.{production_spelled}
use Rattle.go_parse_x.proofs.TurnLemmas.{same_goes_on}

-- ---- before the first token

abbrev pub root : List OpenNode
root = record { start = 0; parts = [] } ∷ []

abbrev pub first_side : Target → List (RightSide Production)
first_side r = production (piece r) ∷ []

reading_there : (r : Reading) → is_there (spell texts top_rank (production (reads r))) ≡ true
reading_there Plain = refl
reading_there Header = refl
reading_there TypeOnly = refl
reading_there Signature = refl
reading_there Params = refl
reading_there TypeParams = refl

first_there : (r : Target) → is_there (spell texts top_rank (production (piece r))) ≡ true
first_there (target.Piece r) = reading_there r
first_there target.File = refl

and_true : (b : Bool) → b ≡ true → (b && true) ≡ true
and_true true h = refl
and_true false h = cc

reading_braced : (r : Reading) → cond (is_brace (production (reads r))) (not (starts tables [] Semicolon)) (is_braced (production (reads r))) ≡ true
reading_braced Plain = refl
reading_braced Header = refl
reading_braced TypeOnly = refl
reading_braced Signature = refl
reading_braced Params = refl
reading_braced TypeParams = refl

first_braced : (r : Target) → hands r ≡ true → all_braced (first_side r) ≡ true
first_braced (target.Piece r) h = and_true _ (reading_braced r)
first_braced target.File h = cc

-- nothing stands behind a piece
pub alone_decided : (n : Production) → AllDecided tables (Call n ∷ [])
alone_decided n = (λ k h. cc, tt)

pub first_solid : (r : Target) → IsSolid (first_side r)
first_solid r = record {
  decided = call_decided Production production [] tables tables_right (piece r) [] (alone_decided (piece r));
  firm = (texts_right.parts (piece r), first_there r, tt);
  spelled = and_true _ (production_spelled (piece r));
  begun = and_true _ (each_begins (piece r));
}

entered : (bytes : List ℕ) (n : Production) (s e : State) → ReadsGo bytes (Call n ∷ []) s e → ReadsGo bytes (production n ∷ []) s e
entered bytes n s e (calls d) = d

pub first_read : (bytes : List ℕ) (r : Target) → HasRead bytes (piece r) [] None (first_side r) 0 root
first_read bytes r = record {
  there = λ ts e a z d. entered bytes (piece r) (before ts) e d;
  back = λ ts e a z d. calls d;
}

pub first_begins : (bytes : List ℕ) (r : Target) → Begins bytes (piece r) []
first_begins bytes r =
    let z = completes_lem bytes (first_side r) (first_solid r).firm 0 root in
    reads_begin bytes (piece r) (piece_is r) [] (tokens_of (completion texts top_rank (first_side r))) z.0 (calls z.1) z.2

pub first_levels : (r : Target) → through_all standing (first_side r) 0 ≡ Some 0
first_levels r = brackets_expand (Call (piece r)) [] (record { kind = LeftBrace; start = 0; end = 0 }) [] 0 0 (brackets_start (piece r) (piece_is r).level)

-- nothing is read yet
pub new_open : (bytes : List ℕ) (p : Pending) (low number to : ℕ) (kind : Option TokenKind) → IsNew p → low ≤ number → IsOpen bytes (new_view p) [] low number to kind
new_open bytes p low number to kind new le = record {
  assumed = None;
  reads = first_read bytes p.reading;
  solid = first_solid p.reading;
  begins = first_begins bytes p.reading;
  asked = tt;
  next = λ t h. tt;
  braced = first_braced p.reading;
  level = 0;
  levels = first_levels p.reading;
  fit = none_fits p.free;
  counts = new.counts;
  full = tt;
  rises = le;
  behind = none;
}

pub first_open : (bytes : List ℕ) (p : Pending) (low number to : ℕ) (kind : Option TokenKind) → IsNew p → low ≤ number → IsOpen bytes (view_of p) [] low number to kind
first_open bytes p low number to kind new le =
    let P : View → Type 0 = λ v. IsOpen bytes v [] low number to kind in
    subst P (ap (λ b. cond b (open_view p) (new_view p)) (sym new.begun)) (new_open bytes p low number to kind new le)

-- ---- one more token

-- what was seen behind the token stands there
abbrev pub IsRight : List ℕ → Seen → Type 0
IsRight bytes seen = (kind : TokenKind) → seen.ahead ≡ Some kind → (u : Token) → IsNext bytes seen.token.end (Some seen.token.kind) u → u.kind ≡ kind

abbrev pub on_view : View → Seen → List (RightSide Production) → List OpenNode → Heights → List ℕ → View
on_view v seen hs es heights numbers = record { n = v.n; free = v.free; rest = hs; last = seen.token.end; nodes = es; heights = heights; numbers = numbers; hands_over = v.hands_over }

asked_on : (bytes : List ℕ) (seen : Seen) (then : Option TokenKind) (gs : List (RightSide Production)) (fs : List OpenNode) → IsAssumed bytes seen then gs fs → IsAsked then (Some seen.token.kind)
asked_on bytes seen None gs fs h = tt
asked_on bytes seen (Some k) gs fs h = (seen.token.kind, refl, h.1.asked)

next_on : (bytes : List ℕ) (seen : Seen) (then : Option TokenKind) (gs : List (RightSide Production)) (fs : List OpenNode) → IsRight bytes seen → IsAssumed bytes seen then gs fs → (u : Token) → IsNext bytes seen.token.end (Some seen.token.kind) u → IsAsSeen then (u ∷ [])
next_on bytes seen None gs fs right h u w = tt
next_on bytes seen (Some k) gs fs right h u w = right k h.0 u w

pub passed_open : (bytes : List ℕ) (v : View) → IsPiece v.n → (front : List Token) (low number to : ℕ) (kind : Option TokenKind) (o : IsOpen bytes v front low number to kind) (seen : Seen) → v.last ≡ seen.last → IsNext bytes to kind seen.token → IsRight bytes seen → (then : Option TokenKind) (hs : List (RightSide Production)) (es : List OpenNode) → (v.hands_over ≡ true → seen.hands_over ≡ true) → IsPassed bytes seen then v.rest hs v.nodes es → IsAssumed bytes seen then v.rest v.nodes → GoesOn bytes seen v.rest v.nodes → IsSound v.rest → (heights : Heights) (numbers : List ℕ) (after : ℕ) → Counts heights (front ++ seen.token ∷ []) → height_of (front ++ seen.token ∷ []) ≤ v.free → Rises low numbers after → IsOpen bytes (on_view v seen hs es heights numbers) (front ++ seen.token ∷ []) low after seen.token.end (Some seen.token.kind)
passed_open bytes v is front low number to kind o seen q next right then hs es over x assumed goes sound heights numbers after counts fit rises =
    let P : ℕ → Type 0 = λ l. HasRead bytes v.n front o.assumed v.rest l v.nodes in
    let reads = subst P q o.reads in
    record {
      assumed = then;
      reads = passed_read bytes v.n is front o.assumed seen v.rest v.nodes reads (o.next seen.token next) then hs es x;
      solid = x.solid sound;
      begins = goes_begin bytes v.n is front o.assumed seen v.rest v.nodes reads (o.next seen.token next) goes;
      asked = asked_on bytes seen then v.rest v.nodes assumed;
      next = next_on bytes seen then v.rest v.nodes right assumed;
      level = (x.levels o.level 0 o.levels).0;
      braced = λ h. x.braced (over h) (o.braced h);
      levels = (x.levels o.level 0 o.levels).1;
      fit = fits_on v.free front seen.token o.fit fit;
      counts = counts;
      full = x.full o.full;
      rises = rises;
      behind = one front seen.token;
    }

-- ---- the block of a function literal

pub block_goes : (bytes : List ℕ) (seen : Seen) (hs : List (RightSide Production)) (es : List OpenNode) → IsSound hs → IsAtBlock seen hs hs es es → GoesOn bytes seen hs es
block_goes bytes seen hs es s b =
    let P : List (RightSide Production) → Type 0 = λ x. IsSound x in
    let sound = subst P b.block s in
    let z = block_begins bytes b.rest (sound.held.0, refl, sound.held.1) seen.token b.brace seen.last es in
    record { more = z.0; end = z.1; reads = subst (λ x. ReadsGo bytes x (at seen.last (seen.token ∷ z.0) es) z.1) (sym b.block) z.2; all = z.3 }

abbrev pub block_view : View → List (RightSide Production) → List OpenNode → List ℕ → View
block_view v hs es numbers = record { n = v.n; free = v.free; rest = hs; last = v.last; nodes = es; heights = v.heights; numbers = numbers; hands_over = v.hands_over }

pub block_awaits : (bytes : List ℕ) (v : View) → IsPiece v.n → (front : List Token) (low number to : ℕ) (kind : Option TokenKind) (o : IsOpen bytes v front low number to kind) (seen : Seen) → v.last ≡ seen.last → IsNext bytes to kind seen.token → (hs : List (RightSide Production)) (es : List OpenNode) → (v.hands_over ≡ true → seen.hands_over ≡ true) → IsSame bytes seen None v.rest hs v.nodes es → IsAtBlock seen hs hs es es → IsSound v.rest → (numbers : List ℕ) (after : ℕ) → height_of (front ++ seen.token ∷ []) ≤ v.free → Rises low numbers after → IsAwaiting bytes (block_view v hs es numbers) front low after to kind
block_awaits bytes v is front low number to kind o seen q next hs es over x block sound numbers after fit rises =
    let P : ℕ → Type 0 = λ l. HasRead bytes v.n front o.assumed v.rest l v.nodes in
    let reads = subst P q o.reads in
    let ok = o.next seen.token next in
    let goes = same_goes_on bytes seen v.rest hs v.nodes es x (block_goes bytes seen hs es (x.sound sound) block) in
    let R : ℕ → Type 0 = λ l. (ts : List Token) (e : State) → e.rest ≡ [] → ReadsGo bytes (Call v.n ∷ []) (before (front ++ seen.token ∷ ts)) e → ReadsGo bytes hs (at l (seen.token ∷ ts) es) e in
    let S : ℕ → Type 0 = λ l. (ts : List Token) (e : State) → e.rest ≡ [] → ReadsGo bytes hs (at l (seen.token ∷ ts) es) e → ReadsGo bytes (Call v.n ∷ []) (before (front ++ seen.token ∷ ts)) e in
    record {
      brace = seen.token;
      next = next;
      is_brace = block.brace;
      rest = block.rest;
      block = block.block;
      there = subst R (sym q) (λ ts e z r. x.there ts e tt z (reads.there (seen.token ∷ ts) e (seen_on o.assumed seen.token ts ok) z r));
      back = subst S (sym q) (λ ts e z r. reads.back (seen.token ∷ ts) e (seen_on o.assumed seen.token ts ok) z (x.back ts e tt z r));
      sound = x.sound sound;
      begins = goes_begin bytes v.n is front o.assumed seen v.rest v.nodes reads ok goes;
      braced = λ h. x.braced (over h) (o.braced h);
      level = o.level;
      levels = x.levels o.level 0 o.levels;
      fit = fits_on v.free front seen.token o.fit fit;
      counts = o.counts;
      full = x.full o.full;
      rises = rises;
      behind = o.behind;
    }
