-- How many brackets are open where a right side stands, and behind it.
-- Not needed to read the grammar: it says that types are asked for inside brackets alone, and that this is so is proved.
use Rattle.std.specs.Prelude.{ℕ, zero, suc, List, [], ◌∷◌, Option, None, Some, cond, ◌==◌}
use Rattle.go_tree.specs.declared.token.TokenKind.{TokenKind}
use Rattle.go_tree.specs.declared.token.TokenKind.TheVariants.{LeftParen, LeftBracket, LeftBrace, RightParen, RightBracket, RightBrace}
use Rattle.go_tree.specs.declared.production.Items.TheVariants.{Parameters, Fields}
use Rattle.go_tree.specs.declared.production.Production.{Production}
use Rattle.go_tree.specs.declared.production.Production.TheVariants as p
use Rattle.go_tree.specs.Grammar.RightSide.{RightSide, Do, Call, Nothing, Seq, Or, Many, When, Act, Pass, CheckType}

-- where a production can stand, and what it leaves open
pub data Standing : Type 0 where
  -- anywhere, and as many brackets are open behind it
  Level : Standing
  -- in brackets, and as many are open behind it
  Within : Standing
  -- in brackets, of which it passes the closing one
  Closing : Standing

-- one bracket less
abbrev pub closed : ℕ → Option ℕ
closed zero = None
closed (suc l) = Some l

abbrev pub inside : ℕ → Option ℕ
inside zero = None
inside (suc l) = Some (suc l)

abbrev pub behind_token : TokenKind → ℕ → Option ℕ
behind_token LeftParen l = Some (suc l)
behind_token LeftBracket l = Some (suc l)
behind_token LeftBrace l = Some (suc l)
behind_token RightParen l = closed l
behind_token RightBracket l = closed l
behind_token RightBrace l = closed l
behind_token _ l = Some l

abbrev pub behind_act : Act → ℕ → Option ℕ
behind_act (Pass k) l = behind_token k l
behind_act CheckType l = inside l
behind_act _ l = Some l

abbrev pub behind_production : Standing → ℕ → Option ℕ
behind_production Level l = Some l
behind_production Within l = inside l
behind_production Closing l = closed l

abbrev pub then_through : (ℕ → Option ℕ) → Option ℕ → Option ℕ
then_through f None = None
then_through f (Some l) = f l

abbrev pub agreed : Option ℕ → Option ℕ → Option ℕ
agreed None y = None
agreed (Some a) None = None
agreed (Some a) (Some b) = cond (a == b) (Some a) None

-- how many brackets are open behind g, where l are before it; none where g can't stand there
abbrev pub through : {N : Type 0} → (N → Standing) → RightSide N → ℕ → Option ℕ
through C (Do a) l = behind_act a l
through C (Call n) l = behind_production (C n) l
through C Nothing l = Some l
through C (Seq g h) l = then_through (through C h) (through C g l)
through C (Or g h) l = agreed (through C g l) (through C h l)
through C (Many g) l = agreed (Some l) (through C g l)
through C (When a g h) l = agreed (through C g l) (through C h l)

-- behind all these, one after another
abbrev pub through_all : {N : Type 0} → (N → Standing) → List (RightSide N) → ℕ → Option ℕ
through_all C [] l = Some l
through_all C (g ∷ gs) l = then_through (through_all C gs) (through C g l)

-- where each production can stand, and what it leaves open
abbrev pub standing : Production → Standing
standing p.Param = Within
standing p.ParamAfterName = Within
standing p.Field = Within
standing p.FieldAfterName = Within
standing (p.More Parameters) = Within
standing (p.More Fields) = Within
standing p.TypeSpecBracket = Closing
standing p.CallRest = Closing
standing p.AfterArg = Closing
standing _ = Level
