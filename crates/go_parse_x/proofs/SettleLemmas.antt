-- Steps, one behind the other, up to the next token.
use Rattle.std.proofs.Common.{◌≡◌, ℕ, Bool, true, false, List, Option, None, Some, Result, Ok, Err, IfOk, OnOk, refl, subst, sym, ap, ◌∙◌, cond}
use Rattle.go_tree.specs.declared.token.TokenKind.{TokenKind}
use Rattle.go_tree.specs.declared.production.Production.{Production}
use Rattle.go_tree.specs.Grammar.RightSide.{RightSide}
use Rattle.go_tree.specs.Grammar.Trees.Reading.{OpenNode}
use Rattle.go_tree.specs.Grammar.Tables.Completion.{completion, tokens_of}
use Rattle.go_tree.specs.Grammar.Tables.Rank.{top_rank}
use Rattle.go_tree.specs.Grammar.Trees.Sentence.{texts}
use Rattle.go_tree.proofs.SentenceLemmas.{completes_lem}
use Rattle.go_parse_x.specs.declared.seen.Seen.{Seen}
use Rattle.go_parse_x.specs.declared.seen.Turn.{Turn}
use Rattle.go_parse_x.specs.declared.seen.Turn.TheVariants.{Passed, Asked, Stuck, Astray, Unseen, AtBlock}
use Rattle.go_parse_x.specs.Machine.Turns.{is_asked, IsSound, GoesOn, IsSame, IsPassed, IsStuck, IsAsked, IsMet, IsAtBlock, IsTurn, IsSettled}
use Rattle.go_parse_x.proofs.TurnLemmas.{same_then, same_anyway, same_passed, same_stuck, same_goes_on, same_asked}

-- what was assumed so far
abbrev pub assumed_so : Seen → Bool → Option TokenKind
assumed_so seen asked = cond asked seen.ahead None

passed_goes_on : (bytes : List ℕ) (seen : Seen) (gs hs : List (RightSide Production)) (fs es : List OpenNode) → IsSound gs → IsPassed bytes seen None gs hs fs es → GoesOn bytes seen gs fs
passed_goes_on bytes seen gs hs fs es s x =
    let z = completes_lem bytes hs (x.solid s).firm seen.token.end es in
    record { more = tokens_of (completion texts top_rank hs); end = z.0; reads = x.back (tokens_of (completion texts top_rank hs)) z.0 tt z.2 z.1; all = z.2 }

module _ (bytes : List ℕ) (seen : Seen) (gs hs is : List (RightSide Production)) (fs es ds : List OpenNode) where
  pub turned_on : (asked : Bool) → IsSame bytes seen (assumed_so seen asked) gs hs fs es → IsSame bytes seen None hs is es ds → IsSame bytes seen (assumed_so seen asked) gs is fs ds
  turned_on asked x y = same_then bytes seen (assumed_so seen asked) gs hs is fs es ds x (same_anyway bytes seen (assumed_so seen asked) hs is es ds y)

  seen_same : (kind : TokenKind) → seen.ahead ≡ Some kind → IsSame bytes seen None gs hs fs es → IsSame bytes seen (Some kind) hs is es ds → IsSame bytes seen seen.ahead gs is fs ds
  seen_same kind q x y =
      let P : Option TokenKind → Type 0 = λ a. IsSame bytes seen a gs is fs ds in
      subst P (sym q) (same_then bytes seen (Some kind) gs hs is fs es ds (same_anyway bytes seen (Some kind) gs hs fs es x) y)

  again_same : (kind : TokenKind) → seen.ahead ≡ Some kind → IsSame bytes seen seen.ahead gs hs fs es → IsSame bytes seen (Some kind) hs is es ds → IsSame bytes seen seen.ahead gs is fs ds
  again_same kind q x y =
      let P : Option TokenKind → Type 0 = λ a. IsSame bytes seen a hs is es ds in
      same_then bytes seen seen.ahead gs hs is fs es ds x (subst P (sym q) y)

  pub asked_on : (asked : Bool) → IsSame bytes seen (assumed_so seen asked) gs hs fs es → IsMet bytes seen asked gs fs → IsTurn bytes seen Asked hs is es ds → IsSame bytes seen (assumed_so seen true) gs is fs ds × IsMet bytes seen true gs fs
  asked_on false x m y = (seen_same y.0 y.1 x y.2, (y.0, y.1, same_asked bytes seen gs hs fs es x y.3))
  asked_on true x m y = (again_same y.0 y.1 x y.2, m)

  pub passed_on : (asked : Bool) → IsSame bytes seen (assumed_so seen asked) gs hs fs es → IsMet bytes seen asked gs fs → IsSound hs → IsPassed bytes seen None hs is es ds → IsSettled bytes seen Passed gs is fs ds
  passed_on false x m s y = (None, same_passed bytes seen None gs hs is fs es ds x y, tt, same_goes_on bytes seen gs hs fs es x (passed_goes_on bytes seen hs is es ds s y))
  passed_on true x m s y =
      let P : Option TokenKind → Type 0 = λ a. IsPassed bytes seen a gs is fs ds in
      (Some m.0, subst P m.1 (same_passed bytes seen seen.ahead gs hs is fs es ds x y), (m.1, m.2), m.2.goes_on)

  pub stuck_on : (asked : Bool) → IsSame bytes seen (assumed_so seen asked) gs hs fs es → IsMet bytes seen asked gs fs → IsStuck bytes seen None hs es → IsSettled bytes seen (cond asked Astray Stuck) gs is fs ds
  stuck_on false x m y = same_stuck bytes seen None gs hs fs es x y
  stuck_on true x m y =
      let P : Option TokenKind → Type 0 = λ a. IsStuck bytes seen a gs fs in
      (m.0, m.1, subst P m.1 (same_stuck bytes seen seen.ahead gs hs fs es x y), m.2)

  pub unseen_on : (asked : Bool) → IsSame bytes seen (assumed_so seen asked) gs hs fs es → IsMet bytes seen asked gs fs → (seen.ahead ≡ None) × IsAsked bytes seen hs es → IsSettled bytes seen Unseen gs is fs ds
  unseen_on false x m y = (y.0, same_asked bytes seen gs hs fs es x y.1)
  unseen_on true x m y = absurd (let q = sym y.0 ∙ m.1 in cc)

  pub block_on : (asked : Bool) → IsSame bytes seen (assumed_so seen asked) gs hs fs es → IsMet bytes seen asked gs fs → IsAtBlock seen hs is es ds → IsSettled bytes seen AtBlock gs is fs ds
  block_on false x m y =
      let P : List (RightSide Production) → List OpenNode → Type 0 = λ i d. IsSettled bytes seen AtBlock gs i fs d in
      let Q : List (RightSide Production) → Type 0 = λ i. P i ds in
      let R : List OpenNode → Type 0 = λ d. P hs d in
      subst Q (sym y.stays) (subst R (sym y.nodes) (x, record { rest = y.rest; block = y.block; brace = y.brace; over = y.over; stays = refl; nodes = refl }))
  block_on true x m y = absurd (let q = ap is_asked y.brace in let w = m.2.asked in cc)

-- the same for what is to be read, written otherwise
pub same_from : (bytes : List ℕ) (seen : Seen) (assumed : Option TokenKind) (gs hs is : List (RightSide Production)) (fs es : List OpenNode) → hs ≡ is → IsSame bytes seen assumed gs hs fs es → IsSame bytes seen assumed gs is fs es
same_from bytes seen assumed gs hs is fs es q x = let P : List (RightSide Production) → Type 0 = λ y. IsSame bytes seen assumed gs y fs es in subst P q x

pub sound_from : (gs hs : List (RightSide Production)) → gs ≡ hs → IsSound gs → IsSound hs
sound_from gs hs q s = subst IsSound q s

-- where the answer is that turn, and the stack stands so
pub settled_ok : {E : Type 0} (bytes : List ℕ) (seen : Seen) (turn : Turn) (gs hs is : List (RightSide Production)) (fs es : List OpenNode) → (r : Result Turn E) → IfOk r (λ so. so ≡ turn) → OnOk r (is ≡ hs) → IsSettled bytes seen turn gs hs fs es → IfOk r (λ so. IsSettled bytes seen so gs is fs es)
settled_ok bytes seen turn gs hs is fs es (Ok so) q w x =
    let P : Turn → Type 0 = λ y. IsSettled bytes seen y gs is fs es in
    let H : List (RightSide Production) → Type 0 = λ y. IsSettled bytes seen turn gs y fs es in
    subst P (sym q) (subst H (sym w) x)
settled_ok bytes seen turn gs hs is fs es (Err e) q w x = tt
