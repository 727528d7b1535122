-- The end of a file is read in a file alone: no other production passes it.
use Rattle.std.proofs.Common.{◌≡◌, ℕ, Bool, true, false, not, List, [], ◌∷◌, ◌++◌, ◌==◌, cond, refl, sym, ap, subst, ◌∙◌, Some, ◌||◌, ◌&&◌}
use Rattle.std.proofs.lemmas.Bool.{and_parts, eqb-true}
use Rattle.go_tree.specs.declared.token.Token.{Token}
use Rattle.go_tree.specs.declared.token.TokenKind.{TokenKind}
use Rattle.go_tree.specs.declared.token.TokenKind.TheVariants.{End}
use Rattle.go_tree.specs.declared.production.Production.{Production}
use Rattle.go_tree.specs.declared.production.Production.TheVariants as p
use Rattle.go_tree.specs.Tree.{Tree}
use Rattle.go_tree.specs.Grammar.RightSide.{RightSide, Do, Call, Nothing, Seq, Or, Many, When, Act, Pass, Open, Reopen, Adopt, CheckType, Close}
use Rattle.go_tree.specs.Grammar.Tables.TokenKinds.{code, same_kind}
use Rattle.go_tree.specs.Grammar.Trees.Reading.{State, at_end, does, calls, nothing, in_turn, left, right, done, again, chosen, passed_by, acted}
use Rattle.go_tree.specs.Grammar.Trees.Sentence.{production, ReadsGo, Derives}
use Rattle.go_tree.proofs.EmptyLemmas.{rest_kept}
use Rattle.go_tree.proofs.ReadingStepLemmas.{passes}
use Rattle.go_tree.proofs.ByProduction.{by_test}

abbrev pub is_file : Production → Bool
is_file p.File = true
is_file _ = false

-- the end of the file is not passed here
abbrev pub is_endless : RightSide Production → Bool
is_endless (Do (Pass k)) = not (same_kind End k)
is_endless (Do _) = true
is_endless (Call n) = not (is_file n)
is_endless Nothing = true
is_endless (Seq g h) = is_endless g && is_endless h
is_endless (Or g h) = is_endless g && is_endless h
is_endless (Many g) = is_endless g
is_endless (When a g h) = is_endless g && is_endless h

abbrev pub all_endless : List (RightSide Production) → Bool
all_endless [] = true
all_endless (g ∷ gs) = is_endless g && all_endless gs

each_endless : (n : Production) → (is_file n || is_endless (production n)) ≡ true
each_endless = by_test _ refl

of_call : (b e a : Bool) → (b || e) ≡ true → (not b && a) ≡ true → (e && a) ≡ true
of_call true e a h w = cc
of_call false true a h w = w
of_call false false a h w = cc

of_seq : (a b c : Bool) → ((a && b) && c) ≡ true → (a && (b && c)) ≡ true
of_seq true b c w = w
of_seq false b c w = cc

of_left : (a b c : Bool) → ((a && b) && c) ≡ true → (a && c) ≡ true
of_left true true c w = w
of_left true false c w = cc
of_left false b c w = cc

of_right : (a b c : Bool) → ((a && b) && c) ≡ true → (b && c) ≡ true
of_right true b c w = w
of_right false b c w = cc

of_again : (a c : Bool) → (a && c) ≡ true → (a && (a && c)) ≡ true
of_again true c w = w
of_again false c w = cc

not_so : (b : Bool) → not b ≡ true → b ≡ false
not_so true h = cc
not_so false h = refl

-- the tokens from the first end of the file on
abbrev pub from_end : List Token → List Token
from_end [] = []
from_end (t ∷ ts) = cond (same_kind End t.kind) (t ∷ ts) (from_end ts)

no_end_first : (t : Token) (ts : List Token) → same_kind End t.kind ≡ false → from_end (t ∷ ts) ≡ from_end ts
no_end_first t ts h = rw h refl

-- a token of another kind is passed
other_kind : (k j : TokenKind) → same_kind End k ≡ false → same_kind k j ≡ true → same_kind End j ≡ false
other_kind k j h w = ap (λ n. code End == n) (sym (eqb-true (code k) (code j) w)) ∙ h

module _ (bytes : List ℕ) where
  token_kept : (k : TokenKind) (s m : State) → same_kind End k ≡ false → acted bytes (Pass k) s ≡ Some m → from_end s.rest ≡ from_end m.rest
  token_kept k s m n h =
      let x = passes bytes k s m h in
      let P : List Token → Type 0 = λ ts. from_end ts ≡ from_end m.rest in
      subst P (sym x.row) (no_end_first x.token m.rest (other_kind k x.token.kind n x.kind))

  same_rest : (s m : State) → m.rest ≡ s.rest → from_end s.rest ≡ from_end m.rest
  same_rest s m q = ap from_end (sym q)

  act_kept : (a : Act) (s m : State) → is_endless (Do a) ≡ true → acted bytes a s ≡ Some m → from_end s.rest ≡ from_end m.rest
  act_kept (Pass k) s m w h = token_kept k s m (not_so (same_kind End k) w) h
  act_kept Open s m w h = same_rest s m (rest_kept bytes Open s m refl h)
  act_kept Reopen s m w h = same_rest s m (rest_kept bytes Reopen s m refl h)
  act_kept Adopt s m w h = same_rest s m (rest_kept bytes Adopt s m refl h)
  act_kept CheckType s m w h = same_rest s m (rest_kept bytes CheckType s m refl h)
  act_kept (Close k) s m w h = same_rest s m (rest_kept bytes (Close k) s m refl h)

  -- what has no end passes none: from the first end on the tokens stay
  pub end_stays : {gs : List (RightSide Production)} {s e : State} → ReadsGo bytes gs s e → all_endless gs ≡ true → from_end s.rest ≡ from_end e.rest
  end_stays at_end w = refl
  end_stays (does {a = a} {gs = gs} {s = s} {m = m} h d) w =
      let x = and_parts (is_endless (Do a)) (all_endless gs) w in act_kept a s m x.0 h ∙ end_stays d x.1
  end_stays (calls {n = n} {gs = gs} d) w = end_stays d (of_call (is_file n) (is_endless (production n)) (all_endless gs) (each_endless n) w)
  end_stays (nothing d) w = end_stays d w
  end_stays (in_turn {g = g} {h = h} {gs = gs} d) w = end_stays d (of_seq (is_endless g) (is_endless h) (all_endless gs) w)
  end_stays (left {g = g} {h = h} {gs = gs} d) w = end_stays d (of_left (is_endless g) (is_endless h) (all_endless gs) w)
  end_stays (right {g = g} {h = h} {gs = gs} d) w = end_stays d (of_right (is_endless g) (is_endless h) (all_endless gs) w)
  end_stays (chosen {g = g} {h = h} {gs = gs} l d) w = end_stays d (of_left (is_endless g) (is_endless h) (all_endless gs) w)
  end_stays (passed_by {g = g} {h = h} {gs = gs} l d) w = end_stays d (of_right (is_endless g) (is_endless h) (all_endless gs) w)
  end_stays (done {g = g} {gs = gs} d) w = end_stays d (and_parts (is_endless g) (all_endless gs) w).1
  end_stays (again {g = g} {gs = gs} d) w = end_stays d (of_again (is_endless g) (all_endless gs) w)

-- an end stands among the tokens from the first end on
pub end_there : (front more : List Token) (t : Token) → t.kind ≡ End → (zs : List Token) × (from_end (front ++ t ∷ more) ≡ zs ++ t ∷ more)
end_there [] more t h = ([], rw h refl)
end_there (x ∷ front) more t h = go (same_kind End x.kind) (end_there front more t h)
  where
    go : (b : Bool) → ((zs : List Token) × (from_end (front ++ t ∷ more) ≡ zs ++ t ∷ more)) → (zs : List Token) × (cond b (x ∷ (front ++ t ∷ more)) (from_end (front ++ t ∷ more)) ≡ zs ++ t ∷ more)
    go true z = (x ∷ front, refl)
    go false z = z

call_endless : (n : Production) → is_file n ≡ false → all_endless (Call n ∷ []) ≡ true
call_endless n h = rw h refl

something : (zs more : List Token) (t : Token) → zs ++ t ∷ more ≡ [] → ⊥
something [] more t q = cc
something (z ∷ zs) more t q = cc

-- what another production derives has no end of the file
pub no_end_read : (bytes : List ℕ) (n : Production) → is_file n ≡ false → (front more : List Token) (t : Token) (u : Tree) → t.kind ≡ End → Derives bytes n (front ++ t ∷ more) u → ⊥
no_end_read bytes n f front more t u h d =
    let x = end_stays bytes d.whole.reads (call_endless n f) in
    let z = end_there front more t h in
    something z.0 more t (sym z.1 ∙ (x ∙ ap from_end d.whole.all))
