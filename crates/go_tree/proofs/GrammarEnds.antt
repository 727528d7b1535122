-- No text of the grammar ends with `.` or `<-`: by computation.
use Rattle.std.proofs.Common.{◌≡◌, ℕ, Bool, true, false, List, [], ◌∷◌, ◌++◌, refl, ◌||◌, ◌⊎◌, ⊎_elim}
use Rattle.go_tree.specs.declared.token.Token.{Token}
use Rattle.go_tree.specs.declared.token.TokenKind.TheVariants.{Arrow, Dot}
use Rattle.go_tree.specs.declared.production.Production.{Production}
use Rattle.go_tree.specs.Grammar.Tables.TokenKinds.{same_kind}
use Rattle.go_tree.specs.Grammar.Trees.Sentence.{production, tables, IsA}
use Rattle.go_tree.proofs.EndLemmas.{ends_with, never_ends}
use Rattle.go_tree.proofs.GrammarLemmas.{tables_right}
use Rattle.go_tree.proofs.ByProduction.{by_production}

neither_ends : (n : Production) → (ends_with tables Dot (production n) || ends_with tables Arrow (production n)) ≡ false
neither_ends = by_production _ assumption

first_false : (a b : Bool) → (a || b) ≡ false → a ≡ false
first_false true b h = cc
first_false false b h = refl

second_false : (a b : Bool) → (a || b) ≡ false → b ≡ false
second_false true b h = cc
second_false false b h = h

pub dot_ends_none : (n : Production) → ends_with tables Dot (production n) ≡ false
dot_ends_none n = first_false (ends_with tables Dot (production n)) (ends_with tables Arrow (production n)) (neither_ends n)

pub arrow_ends_none : (n : Production) → ends_with tables Arrow (production n) ≡ false
arrow_ends_none n = second_false (ends_with tables Dot (production n)) (ends_with tables Arrow (production n)) (neither_ends n)

-- no n ends with `.` or `<-`
pub ends_in_none : (bytes : List ℕ) (n : Production) (front : List Token) (t : Token) → ((same_kind Dot t.kind ≡ true) ⊎ (same_kind Arrow t.kind ≡ true)) → IsA bytes n (front ++ (t ∷ [])) → ⊥
ends_in_none bytes n front t which d =
    ⊎_elim
    (λ w. never_ends Production production bytes tables tables_right Dot dot_ends_none d.reads refl d.all front t refl w)
    (λ w. never_ends Production production bytes tables tables_right Arrow arrow_ends_none d.reads refl d.all front t refl w)
    which
