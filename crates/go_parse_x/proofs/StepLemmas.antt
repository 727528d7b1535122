-- What a step makes of what is to be read, where it takes more than one at once.
use Rattle.std.proofs.Common.{◌≡◌, ℕ, ◌<◌, Bool, true, false, List, ◌∷◌, None, Some, refl, sym, subst, ◌∙◌, arith}
use Rattle.go_tree.specs.declared.token.TokenKind.{TokenKind}
use Rattle.go_tree.specs.declared.production.Production.{Production}
use Rattle.go_tree.specs.declared.production.Production.TheVariants.{Block}
use Rattle.go_tree.specs.Grammar.RightSide.{RightSide, Do, Call, Nothing, Seq, Act}
use Rattle.go_tree.specs.Grammar.Trees.Reading.{OpenNode}
use Rattle.go_tree.specs.Grammar.Tables.Prediction.{is_empty, next_of}
use Rattle.go_tree.specs.Grammar.Trees.Sentence.{production, tables}
use Rattle.go_parse_x.specs.declared.seen.Seen.{Seen}
use Rattle.go_parse_x.specs.declared.seen.Turn.{Turn}
use Rattle.go_parse_x.specs.declared.seen.Turn.TheVariants.{Passed, Turned, Asked, Stuck, Astray, Unseen, AtBlock}
use Rattle.go_parse_x.specs.Machine.Braces.{is_block}
use Rattle.go_parse_x.specs.Tables.KindSets.{has_kind}
use Rattle.go_parse_x.specs.Tables.Leads.{IsSetOf}
use Rattle.go_parse_x.specs.Machine.Turns.{IsSound, IsSame, IsTurn, IsCheaper}
use Rattle.go_parse_x.specs.Machine.Weights.{cost}
use Rattle.go_parse_x.proofs.TurnLemmas.{same_then, same_anyway, same_passed, same_stuck, same_asked, call_same, nothing_same, seq_same}
use Rattle.go_parse_x.proofs.WeightLemmas.{call_cheaper, seq_cheaper}

no_call : (a : Act) (n : Production) (gs hs : List (RightSide Production)) → Do a ∷ gs ≡ Call n ∷ hs → ⊥
no_call a n gs hs q = cc

-- a token or an act at the front of a series is taken with it
pub series_turn : (bytes : List ℕ) (seen : Seen) (turn : Turn) (a : Act) (h : RightSide Production) (gs is : List (RightSide Production)) (fs es : List OpenNode) → IsSound (Seq (Do a) h ∷ gs) → IsTurn bytes seen turn (Do a ∷ h ∷ gs) is fs es → IsTurn bytes seen turn (Seq (Do a) h ∷ gs) is fs es
series_turn bytes seen Passed a h gs is fs es s t = same_passed bytes seen None _ (Do a ∷ h ∷ gs) is fs fs es (seq_same bytes seen (Do a) h gs fs s) t
series_turn bytes seen Turned a h gs is fs es s t = same_then bytes seen None _ (Do a ∷ h ∷ gs) is fs fs es (seq_same bytes seen (Do a) h gs fs s) t
series_turn bytes seen Asked a h gs is fs es s t =
    let x = seq_same bytes seen (Do a) h gs fs s in
    (t.0, t.1, same_then bytes seen (Some t.0) _ (Do a ∷ h ∷ gs) is fs fs es (same_anyway bytes seen (Some t.0) _ (Do a ∷ h ∷ gs) fs fs x) t.2, same_asked bytes seen _ (Do a ∷ h ∷ gs) fs fs x t.3)
series_turn bytes seen Stuck a h gs is fs es s t = same_stuck bytes seen None _ (Do a ∷ h ∷ gs) fs fs (seq_same bytes seen (Do a) h gs fs s) t
series_turn bytes seen Astray a h gs is fs es s t = t
series_turn bytes seen Unseen a h gs is fs es s t = (t.0, same_asked bytes seen _ (Do a ∷ h ∷ gs) fs fs (seq_same bytes seen (Do a) h gs fs s) t.1)
series_turn bytes seen AtBlock a h gs is fs es s t = absurd (no_call a Block (h ∷ gs) t.rest t.block)

pub series_cheaper : (turn : Turn) (a : Act) (h : RightSide Production) (gs is : List (RightSide Production)) → IsCheaper turn (Do a ∷ h ∷ gs) is → IsCheaper turn (Seq (Do a) h ∷ gs) is
series_cheaper Passed a h gs is t = tt
series_cheaper Turned a h gs is t = let x = seq_cheaper (Do a) h gs in omega (arith, x, t)
series_cheaper Asked a h gs is t = let x = seq_cheaper (Do a) h gs in omega (arith, x, t)
series_cheaper Stuck a h gs is t = tt
series_cheaper Astray a h gs is t = tt
series_cheaper Unseen a h gs is t = tt
series_cheaper AtBlock a h gs is t = tt

module _ (turn : Turn) (a : Act) (g h : RightSide Production) (gs is : List (RightSide Production)) (q : Do a ≡ g) where
  pub taken_turn : (bytes : List ℕ) (seen : Seen) (fs es : List OpenNode) → IsSound (Seq g h ∷ gs) → IsTurn bytes seen turn (Do a ∷ h ∷ gs) is fs es → IsTurn bytes seen turn (Seq g h ∷ gs) is fs es
  taken_turn bytes seen fs es s t =
      let S : RightSide Production → Type 0 = λ x. IsSound (Seq x h ∷ gs) in
      let P : RightSide Production → Type 0 = λ x. IsTurn bytes seen turn (Seq x h ∷ gs) is fs es in
      subst P q (series_turn bytes seen turn a h gs is fs es (subst S (sym q) s) t)

  pub taken_cheaper : IsCheaper turn (Do a ∷ h ∷ gs) is → IsCheaper turn (Seq g h ∷ gs) is
  taken_cheaper t = let P : RightSide Production → Type 0 = λ x. IsCheaper turn (Seq x h ∷ gs) is in subst P q (series_cheaper turn a h gs is t)

-- and so is a production
called : (bytes : List ℕ) (seen : Seen) (n : Production) (h : RightSide Production) (gs : List (RightSide Production)) (fs : List OpenNode) → IsSound (Seq (Call n) h ∷ gs) → (seen.hands_over ≡ true → is_block n ≡ false) → IsSame bytes seen None (Seq (Call n) h ∷ gs) (production n ∷ h ∷ gs) fs fs
called bytes seen n h gs fs s no_block =
    let x = seq_same bytes seen (Call n) h gs fs s in
    same_then bytes seen None _ (Call n ∷ h ∷ gs) _ fs fs fs x (call_same bytes seen n (h ∷ gs) fs (x.sound s) no_block)

pub called_turn : (bytes : List ℕ) (seen : Seen) (n : Production) (g h : RightSide Production) (gs : List (RightSide Production)) (fs : List OpenNode) → Call n ≡ g → IsSound (Seq g h ∷ gs) → (seen.hands_over ≡ true → is_block n ≡ false) → IsSame bytes seen None (Seq g h ∷ gs) (production n ∷ h ∷ gs) fs fs
called_turn bytes seen n g h gs fs q s no_block =
    let S : RightSide Production → Type 0 = λ x. IsSound (Seq x h ∷ gs) in
    let P : RightSide Production → Type 0 = λ x. IsSame bytes seen None (Seq x h ∷ gs) (production n ∷ h ∷ gs) fs fs in
    subst P q (called bytes seen n h gs fs (subst S (sym q) s) no_block)

pub called_cheaper : (n : Production) (g h : RightSide Production) (gs : List (RightSide Production)) → Call n ≡ g → cost (production n ∷ h ∷ gs) < cost (Seq g h ∷ gs)
called_cheaper n g h gs q =
    let P : RightSide Production → Type 0 = λ x. cost (production n ∷ h ∷ gs) < cost (Seq x h ∷ gs) in
    let x = call_cheaper n (h ∷ gs) in
    let y = seq_cheaper (Call n) h gs in
    subst P q (omega (arith, x, y))

pub nothing_turn : (bytes : List ℕ) (seen : Seen) (g : RightSide Production) (gs : List (RightSide Production)) (fs : List OpenNode) → Nothing ≡ g → IsSound (g ∷ gs) → IsSame bytes seen None (g ∷ gs) gs fs fs
nothing_turn bytes seen g gs fs q s =
    let S : RightSide Production → Type 0 = λ x. IsSound (x ∷ gs) in
    let P : RightSide Production → Type 0 = λ x. IsSame bytes seen None (x ∷ gs) gs fs fs in
    subst P q (nothing_same bytes seen gs fs (subst S (sym q) s))

-- the set beside a choice decides it
pub in_set : (set : ℕ) (g : RightSide Production) (after : TokenKind → Bool) (k : TokenKind) → IsSetOf set g → has_kind set k ≡ true → next_of tables g after k ≡ true
in_set set g after k led h = rw (sym (led k) ∙ h) refl

pub not_in_set : (set : ℕ) (g : RightSide Production) (after : TokenKind → Bool) (k : TokenKind) → IsSetOf set g → is_empty tables g ≡ false → has_kind set k ≡ false → next_of tables g after k ≡ false
not_in_set set g after k led some h = rw (sym (led k) ∙ h, some) refl
