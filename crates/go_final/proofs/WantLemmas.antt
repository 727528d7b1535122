-- Records of operands, what operands are wanted as, and final types, whose types are a judge's own; and how many operands are
-- wanted so.
use Rattle.std.proofs.Common.{◌≡◌, Bool, true, false, Bor, Option, Some, None, List, [], ◌∷◌, ℕ, zero, suc, ◌+◌, ◌<◌, get_or, drop, length, map, refl, sym, ap, ◌∙◌, arith}
use Rattle.std.specs.Prelude.{IfSome, if◌then◌else◌}
use Rattle.std.specs.Option.{option_map}
use Rattle.std.specs.List.{AllByRecursion}
use Rattle.std.proofs.Math.Seq.{drop-cons}
use Rattle.std.proofs.lemmas.List.{length-map}
use Rattle.go_tree.specs.declared.node.NodeId.{NodeId}
use Rattle.go_tree.specs.declared.node_kind.NodeKind.{NodeKind}
use Rattle.go_tree.specs.Tree.{Tree, kind_of}
use Rattle.go_term.specs.Types.{TypeData}
use Rattle.go_term.specs.declared.term.Term.{Term}
use Rattle.go_constructs.specs.Operators.Nodes.{binary_of, unary_of}
use Rattle.go_constructs.specs.declared.operator.BinaryOp.{BinaryOp}
use Rattle.go_constructs.specs.declared.operator.UnaryOp.{UnaryOp}
use Rattle.go_judge.specs.declared.rec.Rec.{Rec}
use Rattle.go_judge.specs.Headers.{Headers}
use Rattle.go_judge.specs.Judged.{OutcomeData}
use Rattle.go_judge.specs.Records.{RecData}
use Rattle.go_judge.specs.Types.Own.{KeepsTypes}
use Rattle.go_judge.proofs.OwnDataLemmas.{rec_agrees}
use Rattle.go_model.specs.Outcomes.Readings.{record_by}
use Rattle.go_report.specs.Finals.Untyped.{final_at}
use Rattle.go_report.specs.Finals.Wanted.{each_as, hands_on, is_parentheses, to_operands, to_two, wanted}
use Rattle.go_final.specs.Ends.{AreOwnFinals, ends_at, ends_by, finals_as}
use Rattle.go_final.specs.Wants.{AreOwnFounds, AreOwnWants, IsOwnFound, found_as, founds_as, wants_as}

-- over types that stay
module _ (own own' : Term → Type 0) (tree tree' : Term → TypeData) (keeps : KeepsTypes own own' tree tree') where
  found-agrees : (found : Option (Bor Rec)) → IsOwnFound own found → found_as tree' found ≡ found_as tree found
  found-agrees None is = refl
  found-agrees (Some rec) is = ap Some (rec_agrees own tree tree' keeps.trees rec.now is)

  pub founds-agree : (founds : List (Option (Bor Rec))) → AreOwnFounds own founds → founds_as tree' founds ≡ founds_as tree founds
  founds-agree [] are = refl
  founds-agree (found ∷ founds) are = λ i. found-agrees found are.0 i ∷ founds-agree founds are.1 i

  pub some-agrees : (want : Option Term) → IfSome want own → option_map tree' want ≡ option_map tree want
  some-agrees None is = refl
  some-agrees (Some t) is = ap Some (keeps.trees t is)

  pub some-stays : (want : Option Term) → IfSome want own → IfSome want own'
  some-stays None is = tt
  some-stays (Some t) is = keeps.types t is

  pub wants-agree : (wants : List (Option Term)) → AreOwnWants own wants → wants_as tree' wants ≡ wants_as tree wants
  wants-agree [] are = refl
  wants-agree (want ∷ wants) are = λ i. some-agrees want are.0 i ∷ wants-agree wants are.1 i

  pub wants-stay : (wants : List (Option Term)) → AreOwnWants own wants → AreOwnWants own' wants
  wants-stay [] are = tt
  wants-stay (want ∷ wants) are = (some-stays want are.0, wants-stay wants are.1)

  pub finals-agree : (finals : List (NodeId × Term)) → AreOwnFinals own finals → finals_as tree' finals ≡ finals_as tree finals
  finals-agree [] are = refl
  finals-agree (entry ∷ finals) are = λ i. (entry.0, keeps.trees entry.1 are.0 i) ∷ finals-agree finals are.1 i

  pub finals-stay : (finals : List (NodeId × Term)) → AreOwnFinals own finals → AreOwnFinals own' finals
  finals-stay [] are = tt
  finals-stay (entry ∷ finals) are = (keeps.types entry.1 are.0, finals-stay finals are.1)

-- what is left of a list from a place on

pub all-drop : {X : Type 0} (P : X → Type 0) (n : ℕ) (xs : List X) → AllByRecursion P xs → AllByRecursion P (drop n xs)
all-drop P zero xs are = are
all-drop P (suc n) [] are = tt
all-drop P (suc n) (x ∷ xs) are = all-drop P n xs are.1

pub drop-at : {X : Type 0} (xs : List X) (i : ℕ) (x : X) → i < length xs → x ≡ get_or xs i x → drop i xs ≡ x ∷ drop (i + 1) xs
drop-at xs i x lt is =
    let next : suc i ≡ i + 1 = omega arith in
    drop-cons xs i x lt ∙ (λ j. sym is j ∷ drop (next j) xs)

-- each operand is wanted as something, or as none

each-long : {X : Type 0} (want : Option TypeData) (operands : List X) → length (each_as want operands) ≡ length operands
each-long want [] = refl
each-long want (x ∷ xs) = ap (λ n. suc n) (each-long want xs)

two-long : (op : BinaryOp) (whole : RecData) (handed : Option TypeData) (operands : List (Option RecData)) → length (to_two op whole handed operands) ≡ length operands
two-long op whole handed [] = refl
two-long op whole handed (None ∷ rs) = each-long None (None ∷ rs)
two-long op whole handed (Some x ∷ []) = refl
two-long op whole handed (Some x ∷ (None ∷ rs)) = each-long None (Some x ∷ (None ∷ rs))
two-long op whole handed (Some x ∷ (Some y ∷ [])) = refl
two-long op whole handed (Some x ∷ (Some y ∷ (r ∷ rs))) = each-long None (Some x ∷ (Some y ∷ (r ∷ rs)))

operands-long : (op : Option BinaryOp) (unary : Option UnaryOp) (whole : RecData) (handed : Option TypeData) (operands : List (Option RecData)) → length (to_operands op unary whole handed operands) ≡ length operands
operands-long (Some op) unary whole handed operands = two-long op whole handed operands
operands-long None (Some op) whole handed operands = each-long handed operands
operands-long None None whole handed operands = each-long None operands

if-long : (b : Bool) (wants others : List (Option TypeData)) (operands : List (Option RecData)) → length wants ≡ length operands → length others ≡ length operands → length (if b then wants else others) ≡ length operands
if-long true wants others operands first second = first
if-long false wants others operands first second = second

wanted-long : (kind : NodeKind) (whole : RecData) (final : Option TypeData) (operands : List (Option RecData)) → length (wanted kind whole final operands) ≡ length operands
wanted-long kind whole final operands =
    if-long (is_parentheses kind) (each_as final operands) (to_operands (binary_of kind) (unary_of kind) whole (hands_on whole final) operands) operands
    (each-long final operands) (operands-long (binary_of kind) (unary_of kind) whole (hands_on whole final) operands)

at-long : (headers : Headers) (kind : NodeKind) (found : Option RecData) (want : Option TypeData) (operands : List (Option RecData)) → length (ends_at headers kind found want operands).wants ≡ length operands
at-long headers kind (Some r) want operands = wanted-long kind r (final_at headers want r) operands
at-long headers kind None want operands = each-long None operands

pub ends-long : (headers : Headers) (outcome : Tree → OutcomeData RecData) (want : Option TypeData) (t : Tree) (operands : List Tree) → length (ends_by headers outcome want t operands).wants ≡ length operands
ends-long headers outcome want t operands =
    at-long headers (kind_of t) (record_by outcome t) want (map (record_by outcome) operands) ∙ length-map operands (record_by outcome)
