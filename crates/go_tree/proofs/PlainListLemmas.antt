-- The plain lines of lists.
use Rattle.std.proofs.Common.{[], ◌∷◌, refl}
use Rattle.go_tree.specs.declared.token.TokenKind.TheVariants.{Comma, Semicolon, InsertedSemicolon}
use Rattle.go_tree.specs.declared.production.Items.{Items}
use Rattle.go_tree.specs.declared.production.Items.TheVariants.{ImportSpecs, ConstSpecs, VarSpecs, TypeSpecs, TypeParamGroups, Types, Parameters, Fields, Elems, Indexes, Elements}
use Rattle.go_tree.specs.declared.production.Production.{Production}
use Rattle.go_tree.specs.declared.production.Production.TheVariants as p
use Rattle.go_tree.specs.Grammar.RightSide.{RightSide, Nothing, Seq, Or}
use Rattle.go_tree.specs.Grammar.Words.{◌•◌, ◌or◌, tok, the, opt, semi, separator, item, items}
use Rattle.go_tree.specs.Grammar.Trees.Reading.{State, nothing, in_turn, left, right}
use Rattle.go_tree.specs.Grammar.Trees.Sentence.{production, ReadsGo}
use Rattle.go_tree.specs.Grammar.Plain.Lists.{plain_rest, plain_items}
use Rattle.go_tree.specs.Grammar.Plain.Lines.{ReadsSame}
use Rattle.go_tree.proofs.ReadingLemmas.{split, join}
use Rattle.go_tree.proofs.SameReadingLemmas.{PassesToken, same_refl, same_trans, same_call, same_then, same_or, token_passes, first_passes, both_pass, repeats}

-- what may stand behind an item: another one, or a separator alone
separated : (s x more : RightSide Production) → ReadsSame (opt (s • opt (x • opt more))) ((s • x) • opt more or opt s)
separated s x more bytes gs b e = (ahead, back)
  where
    turned : {m : State} → ReadsGo bytes (s ∷ []) b m → ReadsGo bytes (Or (Seq x (Or more Nothing)) Nothing ∷ gs) m e → ReadsGo bytes (Or (Seq (Seq s x) (Or more Nothing)) (Or s Nothing) ∷ gs) b e
    turned c (left (in_turn d)) = left (in_turn (in_turn (join Production production bytes c d)))
    turned c (right (nothing d)) = right (left (join Production production bytes c d))

    ahead : ReadsGo bytes (Or (Seq s (Or (Seq x (Or more Nothing)) Nothing)) Nothing ∷ gs) b e → ReadsGo bytes (Or (Seq (Seq s x) (Or more Nothing)) (Or s Nothing) ∷ gs) b e
    ahead (left (in_turn d)) = let r = split Production production bytes d (s ∷ []) (Or (Seq x (Or more Nothing)) Nothing ∷ gs) refl in turned r.1 r.2
    ahead (right (nothing d)) = right (right (nothing d))

    back : ReadsGo bytes (Or (Seq (Seq s x) (Or more Nothing)) (Or s Nothing) ∷ gs) b e → ReadsGo bytes (Or (Seq s (Or (Seq x (Or more Nothing)) Nothing)) Nothing ∷ gs) b e
    back (left (in_turn (in_turn d))) = let r = split Production production bytes d (s ∷ []) (x ∷ Or more Nothing ∷ gs) refl in left (in_turn (join Production production bytes r.1 (left (in_turn r.2))))
    back (right (left d)) = let r = split Production production bytes d (s ∷ []) gs refl in left (in_turn (join Production production bytes r.1 (right (nothing r.2))))
    back (right (right (nothing d))) = right (nothing d)

semi_passes : PassesToken Production production semi
semi_passes = both_pass (tok Semicolon) (tok InsertedSemicolon) (token_passes Semicolon) (token_passes InsertedSemicolon)

separator_passes : (l : Items) → PassesToken Production production (separator l)
separator_passes ImportSpecs = semi_passes
separator_passes ConstSpecs = semi_passes
separator_passes VarSpecs = semi_passes
separator_passes TypeSpecs = semi_passes
separator_passes Fields = semi_passes
separator_passes Elems = semi_passes
separator_passes TypeParamGroups = token_passes Comma
separator_passes Types = token_passes Comma
separator_passes Parameters = token_passes Comma
separator_passes Indexes = token_passes Comma
separator_passes Elements = token_passes Comma

pub plain_rest_lem : (l : Items) → ReadsSame (opt (the (p.More l))) (plain_rest l)
plain_rest_lem l = repeats (opt (the (p.More l))) (separator l • item l) (opt (separator l)) (same_trans (same_or (same_call (p.More l)) (same_refl Nothing)) (separated (separator l) (item l) (the (p.More l)))) (first_passes (separator l) (item l) (separator_passes l))

pub plain_items_lem : (l : Items) → ReadsSame (items l) (plain_items l)
plain_items_lem l = same_or (same_then (plain_rest_lem l)) (same_refl Nothing)
