-- Each expansion of the first right side leaves less to be read before the next token.
use Rattle.std.proofs.Common.{◌≡◌, ℕ, ◌+◌, ◌<◌, Bool, true, false, nat_lt, List, ◌∷◌, refl, cond, ◌&&◌, ◌||◌, arith}
use Rattle.std.proofs.lemmas.Bool.Decides.{nat_tests}
use Rattle.go_tree.specs.declared.production.Production.{Production}
use Rattle.go_tree.specs.Grammar.RightSide.{RightSide, Do, Call, Nothing, Seq, Or, Many, When, Act, Ahead}
use Rattle.go_tree.specs.Grammar.Tables.Prediction.{act_is_empty, is_empty}
use Rattle.go_tree.specs.Grammar.Trees.Sentence.{production, tables}
use Rattle.go_tree.proofs.GrammarStarts.{empty_exact}
use Rattle.go_parse_x.specs.Machine.Weights.{weight, weigh, cost}
use Rattle.go_tree.proofs.ByProduction.{by_test}

-- a right side weighs less than the name of its production
lighter : (n : Production) → nat_lt (weigh (production n)) (weight n) ≡ true
lighter = by_test _ refl

below_lt : (a b : ℕ) → nat_lt a b ≡ true → a < b
below_lt a b h = grind (arith, nat_tests, h)

pub call_cheaper : (n : Production) (gs : List (RightSide Production)) → cost (production n ∷ gs) < cost (Call n ∷ gs)
call_cheaper n gs =
    let l = below_lt (weigh (production n)) (weight n) (lighter n) in
    rw (empty_exact n) (omega (arith, l))

pub nothing_cheaper : (gs : List (RightSide Production)) → cost gs < cost (Nothing ∷ gs)
nothing_cheaper gs = omega arith

in_turn : (w v c : ℕ) (a b : Bool) → w + cond a (v + cond b c 0) 0 < (1 + w + cond a v 0) + cond (a && b) c 0
in_turn w v c true b = omega arith
in_turn w v c false b = omega arith

pub seq_cheaper : (g h : RightSide Production) (gs : List (RightSide Production)) → cost (g ∷ h ∷ gs) < cost (Seq g h ∷ gs)
seq_cheaper g h gs = in_turn (weigh g) (weigh h) (cost gs) (is_empty tables g) (is_empty tables h)

first : (w v c : ℕ) (a b : Bool) → w + cond a c 0 < (1 + w + v) + cond (a || b) c 0
first w v c true b = omega arith
first w v c false b = omega arith

second : (w v c : ℕ) (a b : Bool) → v + cond b c 0 < (1 + w + v) + cond (a || b) c 0
second w v c true true = omega arith
second w v c true false = omega arith
second w v c false b = omega arith

pub or_left_cheaper : (g h : RightSide Production) (gs : List (RightSide Production)) → cost (g ∷ gs) < cost (Or g h ∷ gs)
or_left_cheaper g h gs = first (weigh g) (weigh h) (cost gs) (is_empty tables g) (is_empty tables h)

pub or_right_cheaper : (g h : RightSide Production) (gs : List (RightSide Production)) → cost (h ∷ gs) < cost (Or g h ∷ gs)
or_right_cheaper g h gs = second (weigh g) (weigh h) (cost gs) (is_empty tables g) (is_empty tables h)

pub when_left_cheaper : (a : Ahead) (g h : RightSide Production) (gs : List (RightSide Production)) → cost (g ∷ gs) < cost (When a g h ∷ gs)
when_left_cheaper a g h gs = first (weigh g) (weigh h) (cost gs) (is_empty tables g) (is_empty tables h)

pub when_right_cheaper : (a : Ahead) (g h : RightSide Production) (gs : List (RightSide Production)) → cost (h ∷ gs) < cost (When a g h ∷ gs)
when_right_cheaper a g h gs = second (weigh g) (weigh h) (cost gs) (is_empty tables g) (is_empty tables h)

pub many_cheaper : (g : RightSide Production) (gs : List (RightSide Production)) → is_empty tables g ≡ false → cost (g ∷ Many g ∷ gs) < cost (Many g ∷ gs)
many_cheaper g gs e = rw e (omega arith)

pub end_cheaper : (g : RightSide Production) (gs : List (RightSide Production)) → cost gs < cost (Many g ∷ gs)
end_cheaper g gs = omega arith

pub act_cheaper : (a : Act) (gs : List (RightSide Production)) → act_is_empty a ≡ true → cost gs < cost (Do a ∷ gs)
act_cheaper a gs e = rw e (omega arith)
