-- What the next token makes of the first right side that is to be read.
use Rattle.std.proofs.Common.{◌≡◌, ℕ, Bool, true, false, not, List, [], ◌∷◌, Option, None, Some, refl, subst, sym, ap, ◌∙◌, cond, ◌&&◌, ◌||◌, inr, ◌++◌}
use Rattle.std.proofs.lemmas.Bool.{and_parts, eq-eqb}
use Rattle.std.proofs.lemmas.List.{reverse-append, map_push}
use Rattle.go_tree.specs.declared.token.Token.{Token}
use Rattle.go_tree.specs.declared.token.TokenKind.{TokenKind}
use Rattle.go_tree.specs.declared.token.TokenKind.TheVariants.{Ident, KwChan, Arrow, LeftBrace, Dot}
use Rattle.go_tree.specs.declared.production.Production.{Production}
use Rattle.go_tree.specs.declared.production.Production.TheVariants.{Block}
use Rattle.go_tree.specs.Grammar.RightSide.{RightSide, Do, Call, Nothing, Seq, Or, Many, When, Act, Pass, Open, Reopen, Adopt, CheckType, Close, Ahead, Both}
use Rattle.go_tree.specs.Grammar.Tables.TokenKinds.{code, same_kind}
use Rattle.go_tree.specs.Grammar.Trees.Reading.{State, OpenNode, at_end, does, acted, looks, next_start, passed, reopened, reopen, adopted, close_last, ends_in_type}
use Rattle.go_tree.specs.Grammar.Tables.Brackets.{through_all, standing}
use Rattle.go_tree.specs.Tree.{Tree}
use Rattle.go_tree.specs.Grammar.Tables.Prediction.{act_is_empty, begins, next_of, starts, expand}
use Rattle.go_tree.specs.Grammar.Tables.Rank.{top_rank}
use Rattle.go_tree.specs.Grammar.Trees.Sentence.{production, tables, texts, ReadsGo}
use Rattle.go_tree.proofs.PredictionLemmas.{first_token, expand_reads, expand_back, expand_decided, open_act}
use Rattle.go_tree.proofs.CompletionLemmas.{expand_held, firm_held}
use Rattle.go_tree.proofs.GrammarLemmas.{tables_right, texts_right}
use Rattle.go_tree.proofs.GrammarCompletions.{both_begins}
use Rattle.go_parse_x.specs.declared.line.Asked.{Asked}
use Rattle.go_parse_x.specs.declared.line.Asked.TheVariants.{Brace, Bracket, Result, Qualifier, Receive}
use Rattle.go_parse_x.specs.declared.line.Step.{Step}
use Rattle.go_parse_x.specs.declared.seen.Seen.{Seen}
use Rattle.go_parse_x.specs.Tables.Lines.{ahead_of, side, sides}
use Rattle.go_parse_x.specs.Machine.Turns.{at, is_asked, IsAsSeen, IsSound, IsSolid, IsSame, IsPassed, IsStuck, GoesOn, IsAsked, IsAtBlock, IsFull, AsksFor}
use Rattle.go_tree.proofs.BracketLemmas.{through_act, through_pass, check_inside}
use Rattle.go_tree.proofs.GrammarBrackets.{brackets_expand}
use Rattle.go_tree.proofs.StartLemmas.{all_begin, whens_begin, IsSure, act_starts_same}
use Rattle.go_tree.proofs.GrammarStarts.{starts_expand, begin_expand}
use Rattle.go_tree.proofs.NestingLemmas.{same_kinds}
use Rattle.go_parse_x.specs.Machine.Braces.{is_block, all_braced}
use Rattle.go_parse_x.proofs.BraceLemmas.{not_block, expand_braced, braced_behind, brace_passed}
use Rattle.go_parse_x.proofs.SpelledLemmas.{expand_spelled, parts_spelled}

-- tokens that are as they were seen
abbrev sample : Option TokenKind → List Token
sample None = []
sample (Some k) = record { kind = k; start = 0; end = 0 } ∷ []

is_sample : (ahead : Option TokenKind) → IsAsSeen ahead (sample ahead)
is_sample None = tt
is_sample (Some k) = refl

pub same_self : (bytes : List ℕ) (seen : Seen) (assumed : Option TokenKind) (gs : List (RightSide Production)) (fs : List OpenNode) → IsSame bytes seen assumed gs gs fs fs
same_self bytes seen assumed gs fs = record { there = λ ts e a z r. r; back = λ ts e a z r. r; sound = λ s. s; levels = λ l m h. h; starts = λ q s. refl; full = λ h. h; braced = λ o h. h }

pub same_then : (bytes : List ℕ) (seen : Seen) (assumed : Option TokenKind) (gs hs is : List (RightSide Production)) (fs es ds : List OpenNode) → IsSame bytes seen assumed gs hs fs es → IsSame bytes seen assumed hs is es ds → IsSame bytes seen assumed gs is fs ds
same_then bytes seen assumed gs hs is fs es ds x y = record {
  there = λ ts e a z r. y.there ts e a z (x.there ts e a z r);
  back = λ ts e a z r. x.back ts e a z (y.back ts e a z r);
  sound = λ s. y.sound (x.sound s);
  levels = λ l m h. y.levels l m (x.levels l m h);
  starts = λ q s. x.starts q s ∙ y.starts q (x.sound s);
  full = λ h. y.full (x.full h);
  braced = λ o h. y.braced o (x.braced o h);
}

-- what holds whatever follows holds where something is assumed
pub same_anyway : (bytes : List ℕ) (seen : Seen) (assumed : Option TokenKind) (gs hs : List (RightSide Production)) (fs es : List OpenNode) → IsSame bytes seen None gs hs fs es → IsSame bytes seen assumed gs hs fs es
same_anyway bytes seen assumed gs hs fs es x = record { there = λ ts e a z r. x.there ts e tt z r; back = λ ts e a z r. x.back ts e tt z r; sound = x.sound; levels = x.levels; starts = λ q s. x.starts refl s; full = x.full; braced = x.braced }

pub same_passed : (bytes : List ℕ) (seen : Seen) (assumed : Option TokenKind) (gs hs is : List (RightSide Production)) (fs es ds : List OpenNode) → IsSame bytes seen assumed gs hs fs es → IsPassed bytes seen None hs is es ds → IsPassed bytes seen assumed gs is fs ds
same_passed bytes seen assumed gs hs is fs es ds x y = record {
  there = λ ts e a z r. y.there ts e tt z (x.there ts e a z r);
  back = λ ts e a z r. x.back ts e a z (y.back ts e tt z r);
  solid = λ s. y.solid (x.sound s);
  levels = λ l m h. y.levels l m (x.levels l m h);
  full = λ h. y.full (x.full h);
  braced = λ o h. y.braced o (x.braced o h);
  no_block = λ o h. y.no_block o (x.braced o h);
}

pub same_stuck : (bytes : List ℕ) (seen : Seen) (assumed : Option TokenKind) (gs hs : List (RightSide Production)) (fs es : List OpenNode) → IsSame bytes seen assumed gs hs fs es → IsStuck bytes seen None hs es → IsStuck bytes seen assumed gs fs
same_stuck bytes seen assumed gs hs fs es x y = record {
  inside = λ q s h l. y.inside refl (x.sound s) (sym (x.starts q s) ∙ h) (x.levels 0 0 l);
  never = λ ts e a z r. y.never ts e tt z (x.there ts e a z r);
}

-- where nothing is assumed, a text that goes on here goes on there
pub same_goes_on : (bytes : List ℕ) (seen : Seen) (gs hs : List (RightSide Production)) (fs es : List OpenNode) → IsSame bytes seen None gs hs fs es → GoesOn bytes seen hs es → GoesOn bytes seen gs fs
same_goes_on bytes seen gs hs fs es x y = record { more = y.more; end = y.end; reads = x.back y.more y.end tt y.all y.reads; all = y.all }

pub same_asked : (bytes : List ℕ) (seen : Seen) (gs hs : List (RightSide Production)) (fs es : List OpenNode) → IsSame bytes seen None gs hs fs es → IsAsked bytes seen hs es → IsAsked bytes seen gs fs
same_asked bytes seen gs hs fs es x y = record { asked = y.asked; goes_on = same_goes_on bytes seen gs hs fs es x y.goes_on }

sound_expanded : (g : RightSide Production) (gs : List (RightSide Production)) (t : Token) (ts : List Token) → IsSound (g ∷ gs) → IsSound (expand production tables t ts g gs)
sound_expanded g gs t ts s = record {
  decided = expand_decided Production production [] tables tables_right g gs t ts s.decided;
  held = expand_held Production production [] texts tables top_rank texts_right g gs t ts s.held;
  spelled = expand_spelled g gs t ts s.spelled;
  begun = begin_expand g gs t ts s.begun;
}

-- an expansion by the token, and by what is assumed of those behind it
pub by_expansion : (bytes : List ℕ) (seen : Seen) (assumed : Option TokenKind) (g : RightSide Production) (gs hs : List (RightSide Production)) (fs : List OpenNode) → IsSound (g ∷ gs) → (assumed ≡ None → IsSure g seen.token []) → (seen.hands_over ≡ true → not_block g ≡ true) → ((ts : List Token) → IsAsSeen assumed ts → expand production tables seen.token ts g gs ≡ hs) → IsSame bytes seen assumed (g ∷ gs) hs fs fs
by_expansion bytes seen assumed g gs hs fs s sure free q = record {
  there = λ ts e a z r. subst (λ x. ReadsGo bytes x (at seen.last (seen.token ∷ ts) fs) e) (q ts a) (expand_reads Production production bytes tables tables_right r seen.token ts s.decided.0 refl z);
  back = λ ts e a z r. expand_back Production production bytes tables tables_right g gs (at seen.last (seen.token ∷ ts) fs) e seen.token ts refl (subst (λ x. ReadsGo bytes x (at seen.last (seen.token ∷ ts) fs) e) (sym (q ts a)) r);
  sound = λ s. subst IsSound (q (sample assumed) (is_sample assumed)) (sound_expanded g gs seen.token (sample assumed) s);
  levels = λ l m h. subst (λ x. through_all standing x l ≡ Some m) (q (sample assumed) (is_sample assumed)) (brackets_expand g gs seen.token (sample assumed) l m h);
  starts = λ none s. sym (subst (λ x. starts tables x seen.token.kind ≡ starts tables (g ∷ gs) seen.token.kind) (q [] (subst (λ a. IsAsSeen a []) (sym none) tt)) (starts_expand g gs seen.token [] (and_parts (whens_begin tables g) (all_begin tables gs) s.begun).0 (sure none)));
  full = λ h. h;
  braced = λ o h. subst (λ x. all_braced x ≡ true) (q (sample assumed) (is_sample assumed)) (expand_braced g gs seen.token (sample assumed) (free o) h);
}

pub call_same : (bytes : List ℕ) (seen : Seen) (n : Production) (gs : List (RightSide Production)) (fs : List OpenNode) → IsSound (Call n ∷ gs) → (seen.hands_over ≡ true → is_block n ≡ false) → IsSame bytes seen None (Call n ∷ gs) (production n ∷ gs) fs fs
call_same bytes seen n gs fs s free = by_expansion bytes seen None (Call n) gs (production n ∷ gs) fs s (λ q. tt) (λ o. ap not (free o)) (λ ts a. refl)

pub nothing_same : (bytes : List ℕ) (seen : Seen) (gs : List (RightSide Production)) (fs : List OpenNode) → IsSound (Nothing ∷ gs) → IsSame bytes seen None (Nothing ∷ gs) gs fs fs
nothing_same bytes seen gs fs s = by_expansion bytes seen None Nothing gs gs fs s (λ q. tt) (λ o. refl) (λ ts a. refl)

pub seq_same : (bytes : List ℕ) (seen : Seen) (g h : RightSide Production) (gs : List (RightSide Production)) (fs : List OpenNode) → IsSound (Seq g h ∷ gs) → IsSame bytes seen None (Seq g h ∷ gs) (g ∷ h ∷ gs) fs fs
seq_same bytes seen g h gs fs s = by_expansion bytes seen None (Seq g h) gs (g ∷ h ∷ gs) fs s (λ q. tt) (λ o. refl) (λ ts a. refl)

pub left_same : (bytes : List ℕ) (seen : Seen) (g h : RightSide Production) (gs : List (RightSide Production)) (fs : List OpenNode) → IsSound (Or g h ∷ gs) → next_of tables g (starts tables gs) seen.token.kind ≡ true → IsSame bytes seen None (Or g h ∷ gs) (g ∷ gs) fs fs
left_same bytes seen g h gs fs s q = by_expansion bytes seen None (Or g h) gs (g ∷ gs) fs s (λ q. tt) (λ o. refl) (λ ts a. rw q refl)

pub right_same : (bytes : List ℕ) (seen : Seen) (g h : RightSide Production) (gs : List (RightSide Production)) (fs : List OpenNode) → IsSound (Or g h ∷ gs) → next_of tables g (starts tables gs) seen.token.kind ≡ false → IsSame bytes seen None (Or g h ∷ gs) (h ∷ gs) fs fs
right_same bytes seen g h gs fs s q = by_expansion bytes seen None (Or g h) gs (h ∷ gs) fs s (λ q. tt) (λ o. refl) (λ ts a. rw q refl)

pub again_same : (bytes : List ℕ) (seen : Seen) (g : RightSide Production) (gs : List (RightSide Production)) (fs : List OpenNode) → IsSound (Many g ∷ gs) → begins tables g seen.token.kind ≡ true → IsSame bytes seen None (Many g ∷ gs) (g ∷ Many g ∷ gs) fs fs
again_same bytes seen g gs fs s q = by_expansion bytes seen None (Many g) gs (g ∷ Many g ∷ gs) fs s (λ q. tt) (λ o. refl) (λ ts a. rw q refl)

pub done_same : (bytes : List ℕ) (seen : Seen) (g : RightSide Production) (gs : List (RightSide Production)) (fs : List OpenNode) → IsSound (Many g ∷ gs) → begins tables g seen.token.kind ≡ false → IsSame bytes seen None (Many g ∷ gs) gs fs fs
done_same bytes seen g gs fs s q = by_expansion bytes seen None (Many g) gs gs fs s (λ q. tt) (λ o. refl) (λ ts a. rw q refl)

pub chosen_same : (bytes : List ℕ) (seen : Seen) (assumed : Option TokenKind) (w : Ahead) (g h : RightSide Production) (gs : List (RightSide Production)) (fs : List OpenNode) → IsSound (When w g h ∷ gs) → ((ts : List Token) → IsAsSeen assumed ts → looks w (seen.token ∷ ts) ≡ true) → (assumed ≡ None → IsSure (When w g h) seen.token []) → IsSame bytes seen assumed (When w g h ∷ gs) (g ∷ gs) fs fs
chosen_same bytes seen assumed w g h gs fs s q sure = by_expansion bytes seen assumed (When w g h) gs (g ∷ gs) fs s sure (λ o. refl) (λ ts a. rw (q ts a) refl)

pub passed_by_same : (bytes : List ℕ) (seen : Seen) (assumed : Option TokenKind) (w : Ahead) (g h : RightSide Production) (gs : List (RightSide Production)) (fs : List OpenNode) → IsSound (When w g h ∷ gs) → ((ts : List Token) → IsAsSeen assumed ts → looks w (seen.token ∷ ts) ≡ false) → (assumed ≡ None → IsSure (When w g h) seen.token []) → IsSame bytes seen assumed (When w g h ∷ gs) (h ∷ gs) fs fs
passed_by_same bytes seen assumed w g h gs fs s q sure = by_expansion bytes seen assumed (When w g h) gs (h ∷ gs) fs s sure (λ o. refl) (λ ts a. rw (q ts a) refl)

-- where two tokens decide, some text goes on with the first
pub pair_asked : (bytes : List ℕ) (seen : Seen) (i j : TokenKind) (g h : RightSide Production) (gs : List (RightSide Production)) (fs : List OpenNode) → IsSound (When (Both i j) g h ∷ gs) → same_kind i seen.token.kind ≡ true → is_asked seen.token.kind ≡ true → IsAsked bytes seen (When (Both i j) g h ∷ gs) fs
pair_asked bytes seen i j g h gs fs s same asked =
    let z = both_begins bytes i j g h gs (parts_spelled i j g h gs s.spelled) s.held.1 seen.token same seen.last fs in
    record { asked = asked; goes_on = record { more = z.0; end = z.1; reads = z.2; all = z.3 } }

same_kind_self : (k : TokenKind) → same_kind k k ≡ true
same_kind_self k = eq-eqb (code k) (code k) refl

-- what the token alone answers does not depend on the one behind it
second_free : (i j : TokenKind) (t : Token) (b : Bool) → ((ts : List Token) → looks (Both i j) (t ∷ ts) ≡ b) → same_kind i t.kind ≡ false
second_free i j t b q = go (same_kind i t.kind) (q []) (q (record { kind = j; start = 0; end = 0 } ∷ []))
  where
    go : (c : Bool) → false ≡ b → (c && same_kind j j) ≡ b → c ≡ false
    go true x y = absurd (let z = same_kind_self j in let w = x ∙ sym y in cc)
    go false x y = refl

pub alone_sure : (asked : Asked) (t : Token) (b : Bool) (g h : RightSide Production) → ((u : Token) (ts : List Token) → u.kind ≡ t.kind → looks (ahead_of asked) (u ∷ ts) ≡ b) → IsSure (When (ahead_of asked) g h) t []
alone_sure Brace t b g h q = tt
alone_sure Bracket t b g h q = tt
alone_sure Result t b g h q = tt
alone_sure Qualifier t b g h q = inr (second_free Dot Ident t b (λ ts. q t ts refl))
alone_sure Receive t b g h q = inr (second_free Arrow KwChan t b (λ ts. q t ts refl))

asked_kind : (i k : TokenKind) → is_asked i ≡ true → same_kind i k ≡ true → is_asked k ≡ true
asked_kind i k h same = subst (λ x. is_asked x ≡ true) (same_kinds i k same) h

-- the same for what is asked for
pub asked_for : (bytes : List ℕ) (seen : Seen) (asked : Asked) (g h : RightSide Production) (gs : List (RightSide Production)) (fs : List OpenNode) → IsSound (When (ahead_of asked) g h ∷ gs) → AsksFor asked seen.token.kind → IsAsked bytes seen (When (ahead_of asked) g h ∷ gs) fs
asked_for bytes seen Brace g h gs fs s w = absurd w
asked_for bytes seen Bracket g h gs fs s w = absurd w
asked_for bytes seen Result g h gs fs s w = absurd w
asked_for bytes seen Qualifier g h gs fs s w = pair_asked bytes seen Dot Ident g h gs fs s w (asked_kind Dot seen.token.kind refl w)
asked_for bytes seen Receive g h gs fs s w = pair_asked bytes seen Arrow KwChan g h gs fs s w (asked_kind Arrow seen.token.kind refl w)

-- what cannot start with the token is stuck
pub never_starts : (bytes : List ℕ) (seen : Seen) (gs : List (RightSide Production)) (fs : List OpenNode) → starts tables gs seen.token.kind ≡ false → IsStuck bytes seen None gs fs
never_starts bytes seen gs fs h = record { inside = λ none s w l. absurd (let q = sym h ∙ w in cc); never = λ ts e w z r. absurd (let y = first_token Production production bytes tables tables_right r seen.token ts refl z in let q = sym h ∙ y in cc) }

or_nothing : (b c : Bool) → b ≡ false → ((b || false) || (false && c)) ≡ false
or_nothing true c h = cc
or_nothing false c h = refl

-- no block begins with another token
pub block_stuck : (bytes : List ℕ) (seen : Seen) (n : Production) (gs : List (RightSide Production)) (fs : List OpenNode) → n ≡ Block → same_kind LeftBrace seen.token.kind ≡ false → IsStuck bytes seen None (Call n ∷ gs) fs
block_stuck bytes seen n gs fs q h =
    let P : Production → Type 0 = λ m. IsStuck bytes seen None (Call m ∷ gs) fs in
    subst P (sym q) (never_starts bytes seen (Call Block ∷ gs) fs (or_nothing (same_kind LeftBrace seen.token.kind) (starts tables gs seen.token.kind) h))

pub at_block : (seen : Seen) (n : Production) (gs : List (RightSide Production)) (fs : List OpenNode) → n ≡ Block → seen.token.kind ≡ LeftBrace → seen.hands_over ≡ true → IsAtBlock seen (Call n ∷ gs) (Call n ∷ gs) fs fs
at_block seen n gs fs q brace over = record { rest = gs; block = rw q refl; brace = brace; over = over; stays = refl; nodes = refl }

sound_behind : (a : Act) (gs : List (RightSide Production)) → IsSound (Do a ∷ gs) → IsSolid gs
sound_behind a gs s = record { decided = s.decided.1; firm = s.held.1; spelled = s.spelled; begun = s.begun }

pub solid_sound : (gs : List (RightSide Production)) → IsSolid gs → IsSound gs
solid_sound gs s = record { decided = s.decided; held = firm_held Production production [] texts top_rank gs s.firm; spelled = s.spelled; begun = s.begun }

abbrev rest_of : Option State → List Token
rest_of None = []
rest_of (Some s) = s.rest

kept_full : (b : Bool) (s m : State) → cond b (Some s) None ≡ Some m → IsFull s.open_nodes → IsFull m.open_nodes
kept_full true s m h f = let q : s ≡ m = cc in subst (λ (x : State). IsFull x.open_nodes) q f
kept_full false s m h f = cc

reopened_full : (xs : List Tree) (start : ℕ) (fs : List OpenNode) → IsFull (reopened xs start fs)
reopened_full [] start fs = tt
reopened_full (x ∷ xs) start fs = tt

adopted_full : (f : OpenNode) (xs : List Tree) (start : ℕ) (fs : List OpenNode) → IsFull (adopted f xs start fs)
adopted_full f [] start fs = tt
adopted_full f (x ∷ xs) start fs = tt

-- a node stays open
acts_full : (bytes : List ℕ) (a : Act) (last : ℕ) (ts : List Token) (fs : List OpenNode) (m : State) → acted bytes a (at last ts fs) ≡ Some m → IsFull fs → IsFull m.open_nodes
acts_full bytes (Pass k) last [] fs m h f = cc
acts_full bytes (Pass k) last (t ∷ ts) fs m h f = kept_full (same_kind k t.kind) (record { last = t.end; rest = ts; open_nodes = fs }) m h f
acts_full bytes Open last ts fs m h f = kept_full true (record { last = last; rest = ts; open_nodes = record { start = next_start last ts; parts = [] } ∷ fs }) m h tt
acts_full bytes Reopen last ts [] m h f = absurd f
acts_full bytes Reopen last ts (g ∷ fs) m h f = kept_full true (record { last = last; rest = ts; open_nodes = reopen (g ∷ fs) }) m h (reopened_full g.parts g.start fs)
acts_full bytes Adopt last ts [] m h f = absurd f
acts_full bytes Adopt last ts (g ∷ []) m h f = kept_full true (record { last = last; rest = ts; open_nodes = g ∷ [] }) m h tt
acts_full bytes Adopt last ts (g ∷ (k ∷ fs)) m h f = kept_full true (record { last = last; rest = ts; open_nodes = adopted g k.parts k.start fs }) m h (adopted_full g k.parts k.start fs)
acts_full bytes CheckType last ts fs m h f = kept_full (ends_in_type fs) (at last ts fs) m h f
acts_full bytes (Close k) last ts [] m h f = absurd f
acts_full bytes (Close k) last ts (g ∷ []) m h f = kept_full true (record { last = last; rest = ts; open_nodes = g ∷ [] }) m h tt
acts_full bytes (Close k) last ts (g ∷ (j ∷ fs)) m h f = kept_full true (record { last = last; rest = ts; open_nodes = close_last bytes k last (g ∷ (j ∷ fs)) }) m h tt

acted_full : (bytes : List ℕ) (a : Act) (s m : State) → acted bytes a s ≡ Some m → IsFull s.open_nodes → IsFull m.open_nodes
acted_full bytes a s m h f = acts_full bytes a s.last s.rest s.open_nodes m h f

-- an act that passes no token
made_empty : (bytes : List ℕ) (a : Act) (seen : Seen) (fs es : List OpenNode) → ((ts : List Token) → acted bytes a (at seen.last (seen.token ∷ ts) fs) ≡ Some (at seen.last (seen.token ∷ ts) es)) → act_is_empty a ≡ true
made_empty bytes (Pass k) seen fs es q = absurd (longer k seen.token fs es seen.last (q []))
  where
    longer : (k : TokenKind) (t : Token) (fs es : List OpenNode) (last : ℕ) → passed k (t ∷ []) fs ≡ Some (at last (t ∷ []) es) → ⊥
    longer k t fs es last h = go (same_kind k t.kind) h
      where
        go : (b : Bool) → cond b (Some (record { last = t.end; rest = []; open_nodes = fs })) None ≡ Some (at last (t ∷ []) es) → ⊥
        go true h = let z = ap rest_of h in cc
        go false h = cc
made_empty bytes Open seen fs es q = refl
made_empty bytes Reopen seen fs es q = refl
made_empty bytes Adopt seen fs es q = refl
made_empty bytes CheckType seen fs es q = refl
made_empty bytes (Close k) seen fs es q = refl

-- an act that is possible whatever follows
pub act_same : (bytes : List ℕ) (seen : Seen) (a : Act) (gs : List (RightSide Production)) (fs es : List OpenNode) → ((ts : List Token) → acted bytes a (at seen.last (seen.token ∷ ts) fs) ≡ Some (at seen.last (seen.token ∷ ts) es)) → IsSame bytes seen None (Do a ∷ gs) gs fs es
act_same bytes seen a gs fs es q = record {
  there = λ ts e w z r. open_act Production production bytes tables tables_right (q ts) r;
  back = λ ts e w z r. does (q ts) r;
  sound = λ s. solid_sound gs (sound_behind a gs s);
  levels = λ l m h. through_act Production standing a gs l m (made_empty bytes a seen fs es q) h;
  starts = λ none s. sym (act_starts_same Production production tables a gs seen.token.kind (made_empty bytes a seen fs es q));
  braced = λ o h. braced_behind (Do a) gs h;
  full = λ h. acted_full bytes a (at seen.last (seen.token ∷ []) fs) (at seen.last (seen.token ∷ []) es) (q []) h;
}

stopped : (bytes : List ℕ) (a : Act) (gs : List (RightSide Production)) (s e : State) → acted bytes a s ≡ None → ReadsGo bytes (Do a ∷ gs) s e → ⊥
stopped bytes a gs s e h (does k d) = cc

-- only a type that is asked for is not there whatever follows, and it is asked for inside brackets
inside_only : (bytes : List ℕ) (a : Act) (seen : Seen) (gs : List (RightSide Production)) (fs : List OpenNode) → ((ts : List Token) → acted bytes a (at seen.last (seen.token ∷ ts) fs) ≡ None) → starts tables (Do a ∷ gs) seen.token.kind ≡ true → through_all standing (Do a ∷ gs) 0 ≡ Some 0 → ⊥
inside_only bytes (Pass k) seen gs fs q h l = go (same_kind k seen.token.kind) (q []) h
  where
    go : (b : Bool) → cond b (Some (at seen.token.end [] fs)) None ≡ None → (b || (false && starts tables gs seen.token.kind)) ≡ true → ⊥
    go true q h = cc
    go false q h = cc
inside_only bytes Open seen gs fs q h l = absurd (let z = q [] in cc)
inside_only bytes Reopen seen gs fs q h l = absurd (let z = q [] in cc)
inside_only bytes Adopt seen gs fs q h l = absurd (let z = q [] in cc)
inside_only bytes CheckType seen gs fs q h l = absurd (let z = sym (check_inside Production standing gs) ∙ l in cc)
inside_only bytes (Close k) seen gs fs q h l = absurd (let z = q [] in cc)

-- an act that is not possible whatever follows
pub act_stuck : (bytes : List ℕ) (seen : Seen) (a : Act) (gs : List (RightSide Production)) (fs : List OpenNode) → ((ts : List Token) → acted bytes a (at seen.last (seen.token ∷ ts) fs) ≡ None) → IsStuck bytes seen None (Do a ∷ gs) fs
act_stuck bytes seen a gs fs q = record {
  inside = λ none s h l. inside_only bytes a seen gs fs q h l;
  never = λ ts e w z r. stopped bytes a gs (at seen.last (seen.token ∷ ts) fs) e (q ts) r;
}

pub pass_passed : (bytes : List ℕ) (seen : Seen) (k : TokenKind) (gs : List (RightSide Production)) (fs : List OpenNode) → same_kind k seen.token.kind ≡ true → IsPassed bytes seen None (Do (Pass k) ∷ gs) gs fs fs
pass_passed bytes seen k gs fs h = record {
  there = λ ts e w z r. open_act Production production bytes tables tables_right (rw h refl) r;
  back = λ ts e w z r. does (rw h refl) r;
  solid = sound_behind (Pass k) gs;
  levels = λ l m x. let z = through_pass Production standing k gs l m x in (z.0, z.2);
  full = λ f. f;
  braced = λ o x. braced_behind (Do (Pass k)) gs x;
  no_block = λ o x brace. brace_passed k gs seen.token x h brace;
}

pub pass_stuck : (bytes : List ℕ) (seen : Seen) (k : TokenKind) (gs : List (RightSide Production)) (fs : List OpenNode) → same_kind k seen.token.kind ≡ false → IsStuck bytes seen None (Do (Pass k) ∷ gs) fs
pass_stuck bytes seen k gs fs h = act_stuck bytes seen (Pass k) gs fs (λ ts. rw h refl)

over : (bytes : List ℕ) (s e : State) (t : Token) (ts : List Token) → s.rest ≡ t ∷ ts → e.rest ≡ [] → ReadsGo bytes [] s e → ⊥
over bytes s e t ts q z at_end = let y = sym q ∙ z in cc

pub none_stuck : (bytes : List ℕ) (seen : Seen) (fs : List OpenNode) → IsStuck bytes seen None [] fs
none_stuck bytes seen fs = record { inside = λ none s h l. cc; never = λ ts e w z r. over bytes (at seen.last (seen.token ∷ ts) fs) e seen.token ts refl z r }

-- ---- a stack of places

pub sides_push : (ps : List (List Step × ℕ)) (p : List Step × ℕ) → sides (ps ++ p ∷ []) ≡ side p ∷ sides ps
sides_push ps p = rw (map_push, reverse-append) refl

pub sides_popped : (all ps : List (List Step × ℕ)) (p : List Step × ℕ) → all ≡ ps ++ p ∷ [] → sides all ≡ side p ∷ sides ps
sides_popped all ps p q = rw q (sides_push ps p)
