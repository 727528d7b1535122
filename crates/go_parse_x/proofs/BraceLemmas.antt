-- A `;` follows the brace of a block alone.
use Rattle.std.proofs.Common.{◌≡◌, Bool, true, false, not, List, ◌∷◌, ◌&&◌, ◌||◌, refl, subst, sym, ◌∙◌, cond}
use Rattle.std.proofs.lemmas.Bool.{and_parts, and_from}
use Rattle.go_tree.specs.declared.token.Token.{Token}
use Rattle.go_tree.specs.declared.token.TokenKind.{TokenKind}
use Rattle.go_tree.specs.declared.token.TokenKind.TheVariants.{LeftBrace, Semicolon}
use Rattle.go_tree.specs.declared.production.Production.{Production}
use Rattle.go_tree.specs.Grammar.RightSide.{RightSide, Do, Call, Nothing, Seq, Or, Many, When, Act, Pass}
use Rattle.go_tree.specs.Grammar.Tables.TokenKinds.{same_kind}
use Rattle.go_tree.specs.Grammar.Trees.Reading.{looks}
use Rattle.go_tree.specs.Grammar.Tables.Prediction.{begins, is_empty, starts, next_of, expand}
use Rattle.go_tree.specs.Grammar.Trees.Sentence.{production, tables}
use Rattle.go_tree.proofs.NestingLemmas.{same_kinds}
use Rattle.go_parse_x.specs.Machine.Braces.{is_block, act_is_brace, is_brace, is_braced, all_braced}
use Rattle.std.specs.Bool.{MatchBool}
use Rattle.std.proofs.lemmas.Bool.{MatchBool-at_false}
use Rattle.go_tree.proofs.ByProduction.{by_production}

braces_checked : (n : Production) → MatchBool (is_block n) (Unit {0}) (is_braced (production n) ≡ true)
braces_checked = by_production _ assumption

pub production_braced : (n : Production) → is_block n ≡ false → is_braced (production n) ≡ true
production_braced n h = MatchBool-at_false _ _ h (braces_checked n)

not_true : (b : Bool) → not b ≡ true → b ≡ false
not_true true h = cc
not_true false h = refl

act_free : (a : Act) → not (act_is_brace a) ≡ true → act_is_brace a ≡ false
act_free a h = not_true (act_is_brace a) h

-- what is braced by itself is no brace
free_of : (g : RightSide Production) → is_braced g ≡ true → is_brace g ≡ false
free_of (Do a) h = act_free a h
free_of (Call n) h = refl
free_of Nothing h = refl
free_of (Seq g f) h = refl
free_of (Or g f) h = refl
free_of (Many g) h = refl
free_of (When a g f) h = refl

pub head_braced : (g : RightSide Production) (gs : List (RightSide Production)) → is_braced g ≡ true → all_braced gs ≡ true → all_braced (g ∷ gs) ≡ true
head_braced g gs h w =
    let free = free_of g h in
    let P : Bool → Type 0 = λ b. (cond b (not (starts tables gs Semicolon)) (is_braced g) && all_braced gs) ≡ true in
    subst P (sym free) (and_from (is_braced g) (all_braced gs) h w)

not_started : (b e s : Bool) → (not b && not e) ≡ true → not (b || (e && s)) ≡ true
not_started true e s h = cc
not_started false true s h = cc
not_started false false s h = refl

-- the first of two, with the second behind it
first_braced : (g h : RightSide Production) (gs : List (RightSide Production)) (b : Bool) → cond b (not (begins tables h Semicolon) && not (is_empty tables h)) (is_braced g) ≡ true → cond b (not (starts tables (h ∷ gs) Semicolon)) (is_braced g) ≡ true
first_braced g h gs true w = not_started (begins tables h Semicolon) (is_empty tables h) (starts tables gs Semicolon) w
first_braced g h gs false w = w

choose : (b : Bool) (x y : List (RightSide Production)) → all_braced x ≡ true → all_braced y ≡ true → all_braced (cond b x y) ≡ true
choose true x y p q = p
choose false x y p q = q

abbrev pub not_block : RightSide Production → Bool
not_block (Call n) = not (is_block n)
not_block _ = true

-- an expansion keeps that, but for a block
pub expand_braced : (g : RightSide Production) (gs : List (RightSide Production)) (t : Token) (ts : List Token) → not_block g ≡ true → all_braced (g ∷ gs) ≡ true → all_braced (expand production tables t ts g gs) ≡ true
expand_braced (Do a) gs t ts n h = h
expand_braced (Call m) gs t ts n h = head_braced (production m) gs (production_braced m (not_true (is_block m) n)) h
expand_braced Nothing gs t ts n h = h
expand_braced (Seq g f) gs t ts n h =
    let x = and_parts (is_braced (Seq g f)) (all_braced gs) h in
    let y = and_parts (cond (is_brace g) (not (begins tables f Semicolon) && not (is_empty tables f)) (is_braced g)) (is_braced f) x.0 in
    and_from (cond (is_brace g) (not (starts tables (f ∷ gs) Semicolon)) (is_braced g)) (all_braced (f ∷ gs)) (first_braced g f gs (is_brace g) y.0) (head_braced f gs y.1 x.1)
expand_braced (Or g f) gs t ts n h =
    let x = and_parts (is_braced (Or g f)) (all_braced gs) h in
    let y = and_parts (is_braced g) (is_braced f) x.0 in
    choose (next_of tables g (starts tables gs) t.kind) (g ∷ gs) (f ∷ gs) (head_braced g gs y.0 x.1) (head_braced f gs y.1 x.1)
expand_braced (Many g) gs t ts n h =
    let x = and_parts (is_braced g) (all_braced gs) h in
    choose (begins tables g t.kind) (g ∷ Many g ∷ gs) gs (head_braced g (Many g ∷ gs) x.0 h) x.1
expand_braced (When a g f) gs t ts n h =
    let x = and_parts (is_braced (When a g f)) (all_braced gs) h in
    let y = and_parts (is_braced g) (is_braced f) x.0 in
    choose (looks a (t ∷ ts)) (g ∷ gs) (f ∷ gs) (head_braced g gs y.0 x.1) (head_braced f gs y.1 x.1)

pub braced_behind : (g : RightSide Production) (gs : List (RightSide Production)) → all_braced (g ∷ gs) ≡ true → all_braced gs ≡ true
braced_behind g gs h = (and_parts (cond (is_brace g) (not (starts tables gs Semicolon)) (is_braced g)) (all_braced gs) h).1

-- behind the brace no `;` follows
pub brace_passed : (k : TokenKind) (gs : List (RightSide Production)) (t : Token) → all_braced (Do (Pass k) ∷ gs) ≡ true → same_kind k t.kind ≡ true → t.kind ≡ LeftBrace → starts tables gs Semicolon ≡ false
brace_passed k gs t h same brace =
    let x = (and_parts (cond (same_kind LeftBrace k) (not (starts tables gs Semicolon)) (not (same_kind LeftBrace k))) (all_braced gs) h).0 in
    let q : LeftBrace ≡ k = sym (same_kinds k t.kind same ∙ brace) in
    let P : TokenKind → Type 0 = λ j. cond (same_kind LeftBrace j) (not (starts tables gs Semicolon)) (not (same_kind LeftBrace j)) ≡ true in
    not_true (starts tables gs Semicolon) (subst P (sym q) x)
