-- The tables of first tokens are exact in the grammar: by computation.
use Rattle.std.proofs.Common.{◌≡◌, Bool, true, false, List, ◌∷◌, refl, ◌&&◌}
use Rattle.std.proofs.lemmas.Bool.{and_parts}
use Rattle.go_tree.specs.declared.token.Token.{Token}
use Rattle.go_tree.specs.declared.token.TokenKind.{TokenKind}
use Rattle.go_tree.specs.declared.production.Production.{Production}
use Rattle.go_tree.specs.Grammar.RightSide.{RightSide}
use Rattle.go_tree.specs.Grammar.Tables.Prediction.{begins, is_empty, starts, expand}
use Rattle.go_tree.specs.Grammar.Trees.Sentence.{production, tables}
use Rattle.go_tree.proofs.DecidedTests.{each_kind}
use Rattle.go_tree.proofs.DecidedLemmas.{every_kind}
use Rattle.go_tree.proofs.StartLemmas.{AreExact, whens_begin, all_begin, IsSure, expand_starts_same, expand_begin}
use Rattle.go_tree.proofs.ByProduction.{by_test}

abbrev same_test : Bool → Bool → Bool
same_test true b = b
same_test false true = false
same_test false false = true

tested : (a b : Bool) → same_test a b ≡ true → a ≡ b
tested true true h = refl
tested true false h = cc
tested false true h = cc
tested false false h = refl

each_exact : (n : Production) → (each_kind (λ k. same_test (begins tables (production n) k) (tables.first n k)) && same_test (is_empty tables (production n)) (tables.empty n)) ≡ true
each_exact = by_test _ refl

pub first_exact : (n : Production) (k : TokenKind) → begins tables (production n) k ≡ tables.first n k
first_exact n k =
    let z = and_parts (each_kind (λ k. same_test (begins tables (production n) k) (tables.first n k))) (same_test (is_empty tables (production n)) (tables.empty n)) (each_exact n) in
    tested (begins tables (production n) k) (tables.first n k) (every_kind (λ k. same_test (begins tables (production n) k) (tables.first n k)) z.0 k)

pub empty_exact : (n : Production) → is_empty tables (production n) ≡ tables.empty n
empty_exact n =
    let z = and_parts (each_kind (λ k. same_test (begins tables (production n) k) (tables.first n k))) (same_test (is_empty tables (production n)) (tables.empty n)) (each_exact n) in
    tested (is_empty tables (production n)) (tables.empty n) z.1

pub tables_exact : AreExact Production production tables
tables_exact = record { first = first_exact; empty = empty_exact }

pub each_begins : (n : Production) → whens_begin tables (production n) ≡ true
each_begins = by_test _ refl

-- an expansion can start with the next token where what is expanded can
pub starts_expand : (g : RightSide Production) (gs : List (RightSide Production)) (t : Token) (ts : List Token) → whens_begin tables g ≡ true → IsSure g t ts → starts tables (expand production tables t ts g gs) t.kind ≡ starts tables (g ∷ gs) t.kind
starts_expand g gs t ts w sure = expand_starts_same Production production tables tables_exact g gs t ts w sure

pub begin_expand : (g : RightSide Production) (gs : List (RightSide Production)) (t : Token) (ts : List Token) → all_begin tables (g ∷ gs) ≡ true → all_begin tables (expand production tables t ts g gs) ≡ true
begin_expand g gs t ts w = expand_begin Production production tables each_begins g gs t ts w
