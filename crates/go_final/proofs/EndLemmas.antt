-- The walk down: the final types of a node, by its own and by what its operands are wanted as, are those that the fold over
-- the node has.
use Rattle.std.proofs.Common.{◌≡◌, Option, Some, None, List, [], ◌∷◌, ◌++◌, append_assoc, map, refl, sym, ap, ◌∙◌}
use Rattle.std.proofs.lemmas.List.{append-nil}
use Rattle.go_tree.specs.Tree.{Tree, branch, kind_of}
use Rattle.go_term.specs.Types.{TypeData}
use Rattle.go_operands.specs.Operands.{folded, operands_of}
use Rattle.go_operands.proofs.OperandLemmas.{folded-operands}
use Rattle.go_judge.specs.Headers.{Headers}
use Rattle.go_judge.specs.Judged.{OutcomeData}
use Rattle.go_judge.specs.Records.{RecData}
use Rattle.go_model.specs.Outcomes.Readings.{record_by}
use Rattle.go_report.specs.Finals.Nodes.{Finals, Typed, each_wanted, final_of, finals_at, finals_by, founds, typed_by}
use Rattle.go_report.specs.Finals.Untyped.{final_at}
use Rattle.go_report.specs.Finals.Wanted.{each_as, wanted}
use Rattle.go_final.specs.Ends.{each_by, ends_at, ends_by}

module _ (headers : Headers) (outcome : Tree → OutcomeData RecData) where
  abbrev typed : Tree → Typed
  typed t = (folded (typed_by headers outcome) t).own

  -- what comes to a node has its record
  found-is : (t : Tree) → (typed t).found ≡ record_by outcome t
  found-is (branch id from to kind text parts) = refl

  founds-are : (ts : List Tree) → founds (map typed ts) ≡ map (record_by outcome) ts
  founds-are [] = refl
  founds-are (t ∷ ts) = λ i. found-is t i ∷ founds-are ts i

  each-is : (wants : List (Option TypeData)) (ts : List Tree) → each_wanted wants (map typed ts) ≡ each_by headers outcome wants ts
  each-is [] ts = refl
  each-is (want ∷ wants) [] = refl
  each-is (want ∷ wants) (t ∷ ts) = ap (λ rest. finals_by headers outcome want t ++ rest) (each-is wants ts)

  -- by the record of a node, where it has one
  at_record : (t : Tree) (found : Option RecData) (want : Option TypeData) (ts : List Tree)
      → finals_at headers t found (map typed ts) want
      ≡ final_of t (ends_at headers (kind_of t) found want (map (record_by outcome) ts)).own
      ++ each_by headers outcome (ends_at headers (kind_of t) found want (map (record_by outcome) ts)).wants ts
  at_record t (Some r) want ts =
      let final = final_at headers want r in
      ap (λ rs. final_of t final ++ each_wanted (wanted (kind_of t) r final rs) (map typed ts)) (founds-are ts)
      ∙ ap (λ rest. final_of t final ++ rest) (each-is (wanted (kind_of t) r final (map (record_by outcome) ts)) ts)
  at_record t None want ts = none_wanted ts
    where
      none_wanted : (us : List Tree) → each_wanted (each_as None (map typed us)) (map typed us) ≡ each_by headers outcome (each_as None (map (record_by outcome) us)) us
      none_wanted [] = refl
      none_wanted (u ∷ us) = ap (λ rest. finals_by headers outcome None u ++ rest) (none_wanted us)

  -- the final types in a node
  pub finals-down : (want : Option TypeData) (t : Tree)
      → finals_by headers outcome want t
      ≡ final_of t (ends_by headers outcome want t (operands_of t)).own
      ++ each_by headers outcome (ends_by headers outcome want t (operands_of t)).wants (operands_of t)
  finals-down want t =
      ap (λ (found : Typed). found.finals want) (folded-operands (typed_by headers outcome) t) ∙ at_record t (record_by outcome t) want (operands_of t)

  -- behind the node itself: what is listed, with the final types in its operands, is the whole
  pub begun : (want : Option TypeData) (t : Tree) (own : Option TypeData) (wants : List (Option TypeData)) (ts : List Tree) (before old new : Finals)
      → record { own = own; wants = wants } ≡ ends_by headers outcome want t (operands_of t) → ts ≡ operands_of t → old ≡ before → new ≡ old ++ final_of t own
      → new ++ each_by headers outcome wants ts ≡ before ++ finals_by headers outcome want t
  begun want t own wants ts before old new ends operands same is =
      (λ i. is i ++ each_by headers outcome wants ts)
      ∙ (λ i. (same i ++ final_of t (ends i).own) ++ each_by headers outcome (ends i).wants (operands i))
      ∙ append_assoc before (final_of t (ends_by headers outcome want t (operands_of t)).own) (each_by headers outcome (ends_by headers outcome want t (operands_of t)).wants (operands_of t))
      ∙ ap (λ found. before ++ found) (sym (finals-down want t))

  -- behind one more operand
  pub gone_on : (want : Option TypeData) (wants rest : List (Option TypeData)) (t : Tree) (ts others : List Tree) (old new whole : Finals)
      → wants ≡ want ∷ rest → ts ≡ t ∷ others → old ++ each_by headers outcome wants ts ≡ whole → new ≡ old ++ finals_by headers outcome want t
      → new ++ each_by headers outcome rest others ≡ whole
  gone_on want wants rest t ts others old new whole first here so_far is =
      (λ i. is i ++ each_by headers outcome rest others)
      ∙ append_assoc old (finals_by headers outcome want t) (each_by headers outcome rest others)
      ∙ (λ i. old ++ each_by headers outcome (sym first i) (sym here i))
      ∙ so_far

  -- behind the last
  pub all_done : (wants : List (Option TypeData)) (ts : List Tree) (new whole : Finals) → ts ≡ [] → new ++ each_by headers outcome wants ts ≡ whole → new ≡ whole
  all_done wants ts new whole none so_far =
      sym (append-nil new) ∙ ap (λ found. new ++ found) (sym (nothing wants ts none)) ∙ so_far
    where
      nothing : (ws : List (Option TypeData)) (us : List Tree) → us ≡ [] → each_by headers outcome ws us ≡ []
      nothing [] us e = refl
      nothing (w ∷ ws) [] e = refl
      nothing (w ∷ ws) (u ∷ us) e = cc
