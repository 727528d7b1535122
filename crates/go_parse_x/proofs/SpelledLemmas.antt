-- Where two tokens decide, a text of the first choice is known: in each production, and in what an expansion leaves.
use Rattle.std.proofs.Common.{◌≡◌, Bool, true, false, List, ◌∷◌, refl, cond, ◌&&◌}
use Rattle.std.proofs.lemmas.Bool.{and_from, and_parts}
use Rattle.go_tree.specs.declared.token.Token.{Token}
use Rattle.go_tree.specs.declared.token.TokenKind.{TokenKind}
use Rattle.go_tree.specs.declared.production.Production.{Production}
use Rattle.go_tree.specs.Grammar.RightSide.{RightSide, Do, Call, Nothing, Seq, Or, Many, When, Ahead, OneOf, Both}
use Rattle.go_tree.specs.Grammar.Trees.Reading.{looks}
use Rattle.go_tree.specs.Grammar.Tables.Completion.{spell, is_there}
use Rattle.go_tree.specs.Grammar.Tables.Rank.{top_rank}
use Rattle.go_tree.specs.Grammar.Tables.Prediction.{begins, next_of, starts, expand}
use Rattle.go_tree.specs.Grammar.Trees.Sentence.{production, tables, texts}
use Rattle.go_parse_x.specs.Machine.Turns.{pairs_spelled, all_spelled}
use Rattle.go_tree.proofs.ByProduction.{by_test}

pub production_spelled : (n : Production) → pairs_spelled (production n) ≡ true
production_spelled = by_test _ refl

-- what is known of the first and of the others
pub first_spelled : (g : RightSide Production) (gs : List (RightSide Production)) → all_spelled (g ∷ gs) ≡ true → pairs_spelled g ≡ true
first_spelled g gs w = (and_parts (pairs_spelled g) (all_spelled gs) w).0

pub others_spelled : (g : RightSide Production) (gs : List (RightSide Production)) → all_spelled (g ∷ gs) ≡ true → all_spelled gs ≡ true
others_spelled g gs w = (and_parts (pairs_spelled g) (all_spelled gs) w).1

pub both_spelled : (g : RightSide Production) (gs : List (RightSide Production)) → pairs_spelled g ≡ true → all_spelled gs ≡ true → all_spelled (g ∷ gs) ≡ true
both_spelled g gs u v = and_from (pairs_spelled g) (all_spelled gs) u v

-- where two tokens decide
pub parts_spelled : (i j : TokenKind) (g h : RightSide Production) (gs : List (RightSide Production)) → all_spelled (When (Both i j) g h ∷ gs) ≡ true → is_there (spell texts top_rank (When (Both i j) g h)) ≡ true
parts_spelled i j g h gs w =
    (and_parts (is_there (spell texts top_rank (When (Both i j) g h))) (pairs_spelled g && pairs_spelled h) (first_spelled (When (Both i j) g h) gs w)).0

when_spelled : (a : Ahead) (g h : RightSide Production) → pairs_spelled (When a g h) ≡ true → (pairs_spelled g ≡ true) × (pairs_spelled h ≡ true)
when_spelled (OneOf kinds) g h w = and_parts (pairs_spelled g) (pairs_spelled h) w
when_spelled (Both i j) g h w =
    and_parts (pairs_spelled g) (pairs_spelled h) (and_parts (is_there (spell texts top_rank (When (Both i j) g h))) (pairs_spelled g && pairs_spelled h) w).1

choose : (b : Bool) (x y : List (RightSide Production)) → all_spelled x ≡ true → all_spelled y ≡ true → all_spelled (cond b x y) ≡ true
choose true x y u v = u
choose false x y u v = v

-- an expansion keeps that
pub expand_spelled : (g : RightSide Production) (gs : List (RightSide Production)) (t : Token) (ts : List Token) → all_spelled (g ∷ gs) ≡ true → all_spelled (expand production tables t ts g gs) ≡ true
expand_spelled (Do a) gs t ts w = w
expand_spelled (Call n) gs t ts w = both_spelled (production n) gs (production_spelled n) w
expand_spelled Nothing gs t ts w = w
expand_spelled (Seq g h) gs t ts w =
    let x = and_parts (pairs_spelled g) (pairs_spelled h) (first_spelled (Seq g h) gs w) in
    both_spelled g (h ∷ gs) x.0 (both_spelled h gs x.1 (others_spelled (Seq g h) gs w))
expand_spelled (Or g h) gs t ts w =
    let x = and_parts (pairs_spelled g) (pairs_spelled h) (first_spelled (Or g h) gs w) in
    let y = others_spelled (Or g h) gs w in
    choose (next_of tables g (starts tables gs) t.kind) (g ∷ gs) (h ∷ gs) (both_spelled g gs x.0 y) (both_spelled h gs x.1 y)
expand_spelled (Many g) gs t ts w =
    choose (begins tables g t.kind) (g ∷ Many g ∷ gs) gs (both_spelled g (Many g ∷ gs) (first_spelled (Many g) gs w) w) (others_spelled (Many g) gs w)
expand_spelled (When a g h) gs t ts w =
    let x = when_spelled a g h (first_spelled (When a g h) gs w) in
    let y = others_spelled (When a g h) gs w in
    choose (looks a (t ∷ ts)) (g ∷ gs) (h ∷ gs) (both_spelled g gs x.0 y) (both_spelled h gs x.1 y)
