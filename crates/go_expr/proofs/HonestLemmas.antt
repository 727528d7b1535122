-- What nodes give is honest over headers that are.
use Rattle.std.proofs.Common.{◌≡◌, ℕ, zero, suc, ℤ, pos, Bool, true, false, Option, Some, None, List, [], ◌∷◌, length, map, refl, sym, ap, subst, ◌∙◌}
use Rattle.std.specs.Prelude.{if◌then◌else◌, is_some, nat_le, unwrap_or, Contains}
use Rattle.std.specs.List.{AllByRecursion}
use Rattle.go_base.specs.declared.ids.ObjId.{ObjId}
use Rattle.go_base.specs.declared.rule.Rule.{Rule}
use Rattle.go_num.specs.Arithmetic.{limited}
use Rattle.go_num.specs.Text.{most_text}
use Rattle.go_num.specs.declared.value.NumKind.TheVariants as K
use Rattle.go_num.specs.declared.value.Value.{Value}
use Rattle.go_num.specs.declared.value.Value.TheVariants as V
use Rattle.go_term.specs.Types.{TypeData, basic_type}
use Rattle.go_term.specs.declared.basic.Basic.TheVariants.{UntypedBool, UntypedInt, UntypedRune, UntypedString}
use Rattle.go_term.specs.declared.term.Dir.{Dir}
use Rattle.go_term.specs.declared.term.Dir.TheVariants.{Both, Receive, Send}
use Rattle.go_tree.specs.declared.node_kind.NodeKind.{NodeKind}
use Rattle.go_tree.specs.declared.node_kind.NodeKind.TheVariants.{ArrayType, ArrowExpr, ChanType, EmbeddedPointer, FuncType, IntLit, InterfaceType, MapType, Name, ParenExpr, RuneLit, SelectorExpr, SliceType, StarExpr, StringLit, StructType}
use Rattle.go_tree.specs.Tree.{Tree, branch, id_of, list_of, more_trees, no_trees}
use Rattle.go_tree.specs.Lexical.LiteralValues.{int_lit_value, rune_lit_value}
use Rattle.go_module.specs.Rules.{unbuilt_form}
use Rattle.go_module.proofs.MemberLemmas.{contains_head, contains_tail}
use Rattle.go_operands.specs.Operands.{operands_of}
use Rattle.go_operands.proofs.OperandLemmas.{by_operands}
use Rattle.go_scan.specs.StringTexts.{string_of}
use Rattle.go_judge.specs.declared.outcome.Spot.TheVariants.{Whole}
use Rattle.go_judge.specs.Headers.{Headers}
use Rattle.go_judge.specs.Judged.{All, Asks, Broken, Construct, First, Found, Gone, Nothing, Operands, OutcomeData, RuleTest, Waits, asked, joined, judged, made, outcome_at, tested, together, with_records}
use Rattle.go_judge.specs.Kinds.{no_value}
use Rattle.go_judge.specs.Limits.{wide_integer}
use Rattle.go_judge.specs.Naming.{Naming}
use Rattle.go_judge.specs.Operands.{at_whole, is_constant}
use Rattle.go_judge.specs.Quests.{Asked, Decided, Done, Lacks, Need, Quest, run}
use Rattle.go_judge.specs.Records.{HeaderData, RecData, alias, constant, definition, func, named_record, variable}
use Rattle.go_constructs.specs.Array.{array}
use Rattle.go_constructs.specs.Channel.{channel}
use Rattle.go_constructs.specs.Function.{function}
use Rattle.go_constructs.specs.Integers.{integer_record, untyped_int}
use Rattle.go_constructs.specs.Interface.{interface_of}
use Rattle.go_constructs.specs.Literal.{bytes_literal, number_literal}
use Rattle.go_constructs.specs.MapType.{map_of}
use Rattle.go_constructs.specs.Meaning.{meaning_by}
use Rattle.go_constructs.specs.Name.{name}
use Rattle.go_constructs.specs.Parentheses.{parentheses}
use Rattle.go_constructs.specs.Pointer.{pointer_to}
use Rattle.go_constructs.specs.Selector.{selector}
use Rattle.go_constructs.specs.Slice.{slice}
use Rattle.go_constructs.specs.Struct.{struct_of}
use Rattle.go_constructs.specs.declared.meaning.Meaning.{Meaning}
use Rattle.go_constructs.specs.declared.meaning.Meaning.TheVariants.{AnyType, BasicType, Declared, DefinedType, Iota, Other, Predeclared, Truth}
use Rattle.go_constructs.specs.Operators.Constants.{constant_record}
use Rattle.go_constructs.specs.Operators.Honest.{AreHonest, GivesHonest, IsHonest, IsHonestHeader}
use Rattle.go_constructs.specs.Operators.Nodes.{binary_of, by_operator, operator, unary_of}
use Rattle.go_constructs.specs.Operators.Representable.{representable}
use Rattle.go_constructs.specs.Operators.Rules.{long_text}
use Rattle.go_constructs.specs.declared.fit.Fit.TheVariants.{Fits, Long, Wide}
use Rattle.go_constructs.specs.declared.operator.BinaryOp.{BinaryOp}
use Rattle.go_constructs.specs.declared.operator.UnaryOp.{UnaryOp}
use Rattle.go_constructs.specs.declared.sort.Sort.TheVariants as S
use Rattle.go_model.specs.Outcomes.Walk.{construct, many_operands, operand_outcomes, outcome}
use Rattle.go_model.proofs.OutcomeLemmas.{outcome-operands}
use Rattle.go_ops.proofs.FoundLemmas.{gives-record}
use Rattle.go_ops.proofs.GivenLemmas.{basic_sort, fits_type}
use Rattle.go_ops.proofs.GivenLemmas as given
use Rattle.go_ops.proofs.HonestLemmas.{binary-honest, unary-honest}

module _ (headers : Headers) where
  -- RECORDS

  found_record : (s r : RecData) → Found s ≡ Found r → IsHonest headers s → IsHonest headers r
  found_record s r is honest = let same : s ≡ r = cc in subst (IsHonest headers) same honest

  -- of what is no constant, and of a constant
  plain : (r : RecData) → r.value ≡ None → is_constant r ≡ false → IsHonest headers r
  plain r none other = record { constant = ap (λ v. is_some v) none ∙ sym other; fitting = λ v is. absurd (let never : None ≡ Some v = sym none ∙ is in cc) }

  valued : (r : RecData) (type : TypeData) (v : Value) → r.value ≡ Some v → is_constant r ≡ true → r.type ≡ Some type → run headers (representable v type) ≡ Decided Fits → IsHonest headers r
  valued r type v value mode has fits = record {
    constant = ap (λ v. is_some v) value ∙ sym mode;
    fitting = λ w is.
        let both : Some v ≡ Some w = sym value ∙ is in
        let same : v ≡ w = cc in
        record { type = type; has = has; fits = subst (λ u. run headers (representable u type) ≡ Decided Fits) same fits };
  }

  -- VALUES OF UNTYPED KINDS

  integer_fits : (v : ℤ) → is_some (limited v) ≡ true → run headers (representable (V.Int v) (basic_type UntypedInt)) ≡ Decided Fits
  integer_fits v is = fits_type headers (basic_type UntypedInt) (S.Untyped K.Int) (V.Int v) (basic_sort headers K.Int) (ap (λ b. if b then Fits else Wide) is)

  rune_fits : (v : ℤ) → is_some (limited v) ≡ true → run headers (representable (V.Int v) (basic_type UntypedRune)) ≡ Decided Fits
  rune_fits v is = fits_type headers (basic_type UntypedRune) (S.Untyped K.Rune) (V.Int v) (basic_sort headers K.Rune) (ap (λ b. if b then Fits else Wide) is)

  text_fits : (bytes : List ℕ) → nat_le (length bytes) most_text ≡ true → run headers (representable (V.Text bytes) (basic_type UntypedString)) ≡ Decided Fits
  text_fits bytes is = fits_type headers (basic_type UntypedString) (S.Untyped K.Text) (V.Text bytes) (basic_sort headers K.Text) (ap (λ b. if b then Fits else Long) is)

  truth_fits : (b : Bool) → run headers (representable (V.Bool b) (basic_type UntypedBool)) ≡ Decided Fits
  truth_fits b = fits_type headers (basic_type UntypedBool) (S.Untyped K.Bool) (V.Bool b) (basic_sort headers K.Bool) refl

  integer_honest : (v : ℤ) → is_some (limited v) ≡ true → IsHonest headers (integer_record v)
  integer_honest v is = given.constant headers untyped_int (V.Int v) (integer_fits v is)

  -- WHAT IS ASKED

  none_honest : GivesHonest headers (asked headers None)
  none_honest r is = absurd (let never : Nothing ≡ Found r = is in cc)

  done_honest : (tests : List (RuleTest HeaderData)) (s : RecData) → IsHonest headers s → GivesHonest headers (tested headers tests (Done s))
  done_honest tests s honest r is =
      let gives : Decided s ≡ Decided r = gives-record headers tests (Done s) r is in
      let same : s ≡ r = cc in subst (IsHonest headers) same honest

  -- behind a test at the whole
  whole_honest : (rule : Rule) (b : Bool) (s : RecData) → (b ≡ true → IsHonest headers s) → GivesHonest headers (tested headers (at_whole rule (Done b) ∷ []) (Done s))
  whole_honest rule true s honest r is = done_honest (at_whole rule (Done true) ∷ []) s (honest refl) r is
  whole_honest rule false s honest r is = absurd (let never : Broken rule (Whole ∷ []) ≡ Found r = is in cc)

  -- a record of no constant is given, whatever is asked
  abbrev IsPlain : Quest HeaderData RecData → Type 0
  IsPlain (Done r) = (r.value ≡ None) × (is_constant r ≡ false)
  IsPlain (Need d next) = ⊥

  abbrev IsPlainAsk : Option (Asks HeaderData RecData) → Type 0
  IsPlainAsk None = Unit {0}
  IsPlainAsk (Some a) = IsPlain a.gives

  plain_tested : (tests : List (RuleTest HeaderData)) (q : Quest HeaderData RecData) → IsPlain q → GivesHonest headers (tested headers tests q)
  plain_tested tests (Done r) p = done_honest tests r (plain r p.0 p.1)
  plain_tested tests (Need d next) p = absurd p

  plain_asked : (a : Option (Asks HeaderData RecData)) → IsPlainAsk a → GivesHonest headers (asked headers a)
  plain_asked None p = none_honest
  plain_asked (Some a) p = plain_tested a.tests a.gives p

  -- CONSTRUCTS

  -- its record is honest where those of its operands are
  abbrev IsHonestConstruct : Construct HeaderData RecData → Type 0
  IsHonestConstruct s = (rs : List RecData) → AllByRecursion (IsHonest headers) rs → GivesHonest headers (asked headers (s.asks rs))

  plain_construct : (s : Construct HeaderData RecData) → ((rs : List RecData) → IsPlainAsk (s.asks rs)) → IsHonestConstruct s
  plain_construct s p rs all = plain_asked (s.asks rs) (p rs)

  -- by how many operands there are
  plain_few : (s : Construct HeaderData RecData) → IsPlainAsk (s.asks []) → ((x : RecData) → IsPlainAsk (s.asks (x ∷ []))) → ((x y : RecData) → IsPlainAsk (s.asks (x ∷ (y ∷ []))))
      → ((x y z : RecData) (rs : List RecData) → IsPlainAsk (s.asks (x ∷ (y ∷ (z ∷ rs))))) → IsHonestConstruct s
  plain_few s none one two more [] all = plain_asked (s.asks []) none
  plain_few s none one two more (x ∷ []) all = plain_asked (s.asks (x ∷ [])) (one x)
  plain_few s none one two more (x ∷ (y ∷ [])) all = plain_asked (s.asks (x ∷ (y ∷ []))) (two x y)
  plain_few s none one two more (x ∷ (y ∷ (z ∷ rs))) all = plain_asked (s.asks (x ∷ (y ∷ (z ∷ rs)))) (more x y z rs)

  -- literals
  number_honest : (kind : TypeData) (n : ℕ) → (is_some (limited (pos n)) ≡ true → run headers (representable (V.Int (pos n)) kind) ≡ Decided Fits) → IsHonestConstruct (number_literal kind n)
  number_honest kind n fits [] all = whole_honest wide_integer (is_some (limited (pos n))) (constant_record kind (V.Int (pos n))) (λ is. given.constant headers kind (V.Int (pos n)) (fits is))
  number_honest kind n fits (x ∷ rs) all = none_honest

  bytes_honest : (bytes : List ℕ) → IsHonestConstruct (bytes_literal bytes)
  bytes_honest bytes [] all = whole_honest long_text (nat_le (length bytes) most_text) (constant_record (basic_type UntypedString) (V.Text bytes)) (λ is. given.constant headers (basic_type UntypedString) (V.Text bytes) (text_fits bytes is))
  bytes_honest bytes (x ∷ rs) all = none_honest

  -- operators
  operator_honest : (kind : NodeKind) → IsHonestConstruct (operator kind)
  operator_honest kind = go (binary_of kind) (unary_of kind)
    where
      go : (b : Option BinaryOp) (u : Option UnaryOp) → IsHonestConstruct (by_operator b u)
      go (Some op) u [] all = none_honest
      go (Some op) u (x ∷ []) all = none_honest
      go (Some op) u (x ∷ (y ∷ [])) all = binary-honest headers op x y all.0 all.1.0
      go (Some op) u (x ∷ (y ∷ (z ∷ rs))) all = none_honest
      go None (Some op) [] all = none_honest
      go None (Some op) (x ∷ []) all = unary-honest headers op false x all.0
      go None (Some op) (x ∷ (y ∷ rs)) all = none_honest
      go None None rs all = none_honest

  -- NAMES

  named_honest : (d : ObjId) (h : HeaderData) → IsHonestHeader headers h → IsHonest headers (named_record d h)
  named_honest d (constant type v) honest = valued (named_record d (constant type v)) type v refl refl refl (honest type v refl)
  named_honest d (variable type) honest = plain (named_record d (variable type)) refl refl
  named_honest d (func params type) honest = plain (named_record d (func params type)) refl refl
  named_honest d (definition params right methods) honest = plain (named_record d (definition params right methods)) refl refl
  named_honest d (alias type) honest = plain (named_record d (alias type)) refl refl

  module _ (honest : AreHonest headers) where
    declared_honest : (d : ObjId) → GivesHonest headers (made (run headers (Need d.0 (λ h. Done (named_record d h)))))
    declared_honest d r = go (headers d.0) refl
      where
        go : (o : Option HeaderData) → headers d.0 ≡ o → made (elim o as (λ _. Asked RecData) [ None ↦ Lacks d.0 | Some h ↦ Decided (named_record d h) ]) ≡ Found r → IsHonest headers r
        go None has is = absurd (let never : Waits d.0 ≡ Found r = is in cc)
        go (Some h) has is = found_record (named_record d h) r is (named_honest d h (honest d.0 h has))

    name_honest : (m : Meaning) → IsHonestConstruct (name m)
    name_honest (Declared d) [] all = declared_honest d
    name_honest (DefinedType d) [] all = plain_asked ((name (DefinedType d)).asks []) (refl, refl)
    name_honest (BasicType d basic) [] all = plain_asked ((name (BasicType d basic)).asks []) (refl, refl)
    name_honest (AnyType d) [] all = plain_asked ((name (AnyType d)).asks []) (refl, refl)
    name_honest (Truth d truth) [] all = done_honest [] (named_record d (constant (basic_type UntypedBool) (V.Bool truth))) (valued (named_record d (constant (basic_type UntypedBool) (V.Bool truth))) (basic_type UntypedBool) (V.Bool truth) refl refl refl (truth_fits truth))
    name_honest (Iota d None) [] all = whole_honest no_value false (integer_record (pos 0)) (λ is. integer_honest (pos 0) refl)
    name_honest (Iota d (Some n)) [] all = whole_honest wide_integer (is_some (limited (pos n))) (named_record d (constant untyped_int (V.Int (pos n)))) (λ is. valued (named_record d (constant untyped_int (V.Int (pos n)))) untyped_int (V.Int (pos n)) refl refl refl (integer_fits (pos n) is))
    name_honest Predeclared [] all = whole_honest unbuilt_form false (integer_record (pos 0)) (λ is. integer_honest (pos 0) refl)
    name_honest Other [] all = none_honest
    name_honest (Declared d) (x ∷ rs) all = none_honest
    name_honest (DefinedType d) (x ∷ rs) all = none_honest
    name_honest (BasicType d basic) (x ∷ rs) all = none_honest
    name_honest (AnyType d) (x ∷ rs) all = none_honest
    name_honest (Truth d truth) (x ∷ rs) all = none_honest
    name_honest (Iota d None) (x ∷ rs) all = none_honest
    name_honest (Iota d (Some n)) (x ∷ rs) all = none_honest
    name_honest Predeclared (x ∷ rs) all = none_honest
    name_honest Other (x ∷ rs) all = none_honest

    selector_honest : (m : Meaning) → IsHonestConstruct (selector m)
    selector_honest Other [] all = none_honest
    selector_honest Other (x ∷ []) all = whole_honest unbuilt_form false x (λ is. all.0)
    selector_honest Other (x ∷ (y ∷ rs)) all = none_honest
    selector_honest (Declared d) rs all = name_honest (Declared d) rs all
    selector_honest (DefinedType d) rs all = name_honest (DefinedType d) rs all
    selector_honest (BasicType d basic) rs all = name_honest (BasicType d basic) rs all
    selector_honest (AnyType d) rs all = name_honest (AnyType d) rs all
    selector_honest (Truth d truth) rs all = name_honest (Truth d truth) rs all
    selector_honest (Iota d n) rs all = name_honest (Iota d n) rs all
    selector_honest Predeclared rs all = name_honest Predeclared rs all

    -- NODES

    parentheses_honest : IsHonestConstruct parentheses
    parentheses_honest [] all = none_honest
    parentheses_honest (x ∷ []) all = done_honest [] x all.0
    parentheses_honest (x ∷ (y ∷ rs)) all = none_honest

    channel_honest : (dir : Dir) → IsHonestConstruct (channel dir)
    channel_honest dir = plain_few (channel dir) tt (λ x. (refl, refl)) (λ x y. tt) (λ x y z rs. tt)

    construct_honest : (naming : Naming) (t : Tree) → IsHonestConstruct (construct naming t)
    construct_honest naming (branch id from to IntLit text parts) = number_honest untyped_int (int_lit_value text) (integer_fits (pos (int_lit_value text)))
    construct_honest naming (branch id from to RuneLit text parts) = number_honest (basic_type UntypedRune) (rune_lit_value text) (rune_fits (pos (rune_lit_value text)))
    construct_honest naming (branch id from to StringLit text parts) = bytes_honest (unwrap_or (string_of text) [])
    construct_honest naming (branch id from to Name text parts) = name_honest (meaning_by naming id)
    construct_honest naming (branch id from to SelectorExpr text (more_trees operand (more_trees selected no_trees))) = selector_honest (meaning_by naming (id_of selected))
    construct_honest naming (branch id from to ParenExpr text parts) = parentheses_honest
    construct_honest naming (branch id from to StarExpr text parts) = plain_few pointer_to tt (λ x. (refl, refl)) (λ x y. tt) (λ x y z rs. tt)
    construct_honest naming (branch id from to EmbeddedPointer text parts) = plain_few pointer_to tt (λ x. (refl, refl)) (λ x y. tt) (λ x y z rs. tt)
    construct_honest naming (branch id from to SliceType text parts) = plain_few slice tt (λ x. (refl, refl)) (λ x y. tt) (λ x y z rs. tt)
    construct_honest naming (branch id from to ArrayType text parts) = plain_few array tt (λ x. tt) (λ x y. (refl, refl)) (λ x y z rs. tt)
    construct_honest naming (branch id from to MapType text parts) = plain_few map_of tt (λ x. tt) (λ x y. (refl, refl)) (λ x y z rs. tt)
    construct_honest naming (branch id from to ChanType text (more_trees (branch i f t ArrowExpr x element) parts)) = channel_honest Send
    construct_honest naming (branch id from to ChanType text parts) = channel_honest Both
    construct_honest naming (branch id from to ArrowExpr text (more_trees (branch i f t ChanType x element) parts)) = channel_honest Receive
    construct_honest naming (branch id from to FuncType text (more_trees signature parts)) =
        plain_construct (function (many_operands (branch id from to FuncType text (more_trees signature parts))) signature) (λ rs. (refl, refl))
    construct_honest naming (branch id from to StructType text decls) =
        plain_construct (struct_of naming.home (many_operands (branch id from to StructType text decls)) (list_of decls)) (λ rs. (refl, refl))
    construct_honest naming (branch id from to InterfaceType text elems) =
        plain_construct (interface_of naming.home (many_operands (branch id from to InterfaceType text elems)) (list_of elems)) (λ rs. (refl, refl))
    construct_honest naming (branch id from to kind text parts) = operator_honest kind

  -- OPERANDS

  abbrev pub AreHonestOperands : Operands RecData → Type 0
  AreHonestOperands (All rs) = AllByRecursion (IsHonest headers) rs
  AreHonestOperands (First d) = Unit {0}
  AreHonestOperands Gone = Unit {0}

  joined_honest : (x : OutcomeData RecData) (y : Operands RecData) → GivesHonest headers x → AreHonestOperands y → AreHonestOperands (joined x y)
  joined_honest (Found r) (All rs) p q = (p r refl, q)
  joined_honest (Found r) (First d) p q = tt
  joined_honest (Found r) Gone p q = tt
  joined_honest (Waits d) (All rs) p q = tt
  joined_honest (Waits d) (First e) p q = tt
  joined_honest (Waits d) Gone p q = tt
  joined_honest (Broken rule spots) y p q = tt
  joined_honest Nothing y p q = tt

  at_honest : (xs : List (OutcomeData RecData)) → AllByRecursion (GivesHonest headers) xs → (n : ℕ) → GivesHonest headers (outcome_at xs n)
  at_honest [] all n = λ r is. absurd (let never : Nothing ≡ Found r = is in cc)
  at_honest (x ∷ xs) all zero = all.0
  at_honest (x ∷ xs) all (suc n) = at_honest xs all.1 n

  -- the records of operands that are asked for
  pub together-honest : (xs : List (OutcomeData RecData)) → AllByRecursion (GivesHonest headers) xs → (ns : List ℕ) → AreHonestOperands (together (map (outcome_at xs) ns))
  together-honest xs all [] = tt
  together-honest xs all (n ∷ ns) = joined_honest (outcome_at xs n) (together (map (outcome_at xs) ns)) (at_honest xs all n) (together-honest xs all ns)

  judged_honest : (s : Construct HeaderData RecData) (xs : List (OutcomeData RecData)) → IsHonestConstruct s → AllByRecursion (GivesHonest headers) xs → GivesHonest headers (judged headers s xs)
  judged_honest s xs honest all = go (together (map (outcome_at xs) s.operands)) (together-honest xs all s.operands)
    where
      go : (y : Operands RecData) → AreHonestOperands y → GivesHonest headers (with_records headers y s.asks)
      go (All rs) p = honest rs p
      go (First d) p = λ r is. absurd (let never : Waits d ≡ Found r = is in cc)
      go Gone p = λ r is. absurd (let never : Nothing ≡ Found r = is in cc)

-- THE WALK

module _ (naming : Naming) (headers : Headers) (honest : AreHonest headers) where
  each_honest : (ts : List Tree) → ((u : Tree) → Contains ts u → GivesHonest headers (outcome naming headers u)) → AllByRecursion (GivesHonest headers) (map (outcome naming headers) ts)
  each_honest [] each = tt
  each_honest (t ∷ ts) each = (each t (contains_head t ts t refl), each_honest ts (λ u h. each u (contains_tail t ts u h)))

  pub outcome-honest : (t : Tree) (r : RecData) → outcome naming headers t ≡ Found r → IsHonest headers r
  outcome-honest = by_operands (λ t. GivesHonest headers (outcome naming headers t)) (λ t each.
      subst (GivesHonest headers) (sym (outcome-operands naming headers t))
      (judged_honest headers (construct naming t) (operand_outcomes naming headers t) (construct_honest headers honest naming t) (each_honest (operands_of t) each)))

  pub outcomes-honest : (ts : List Tree) → AllByRecursion (GivesHonest headers) (map (outcome naming headers) ts)
  outcomes-honest ts = each_honest ts (λ u h. outcome-honest u)
