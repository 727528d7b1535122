-- The outcome of a node as the code finds it is that by its construct.
use Rattle.std.proofs.Common.{◌≡◌, ◌≤◌, ◌<◌, ℕ, ℤ, pos, negsuc, ◌^◌, nat_lt, Bool, true, false, cond, Option, Some, None, List, [], ◌∷◌, get_or, drop, length, refl, sym, ap, ◌∙◌, arith}
use Rattle.std.specs.Prelude.{◌&&◌, if◌then◌else◌, is_some, nat_le, not}
use Rattle.go_num.specs.Arithmetic.{limited}
use Rattle.go_num.specs.Text.{most_text}
use Rattle.go_num.specs.declared.value.Value.TheVariants.{Int, Text}
use Rattle.go_term.specs.Types.{TypeData, basic_type}
use Rattle.go_term.specs.declared.basic.Basic.TheVariants.{UntypedString}
use Rattle.go_tree.specs.declared.node_kind.NodeKind.{NodeKind}
use Rattle.go_tree.specs.declared.node_kind.NodeKind.TheVariants.{ArrowExpr, ChanType}
use Rattle.go_tree.specs.Tree.{Tree, Trees, branch, end_of, id_of, kind_of, more_trees, no_trees, parts_of, start_of, text_of}
use Rattle.go_judge.specs.declared.outcome.Spot.TheVariants.{Whole}
use Rattle.go_constructs.specs.Channel.{channel}
use Rattle.go_judge.specs.Limits.{wide_integer}
use Rattle.go_constructs.specs.Literal.{bytes_literal}
use Rattle.go_constructs.specs.Operators.Constants.{constant_record}
use Rattle.go_constructs.specs.Operators.Rules.{long_text}
use Rattle.go_judge.specs.Judged.{Broken, Found, OutcomeData, judged, tested}
use Rattle.go_judge.specs.Operands.{at_whole}
use Rattle.go_constructs.specs.Integers.{untyped_int}
use Rattle.go_constructs.specs.Name.{name}
use Rattle.go_constructs.specs.declared.meaning.Meaning.TheVariants.{Iota}
use Rattle.go_judge.specs.Records.{HeaderData, RecData, typed_record}
use Rattle.go_judge.specs.declared.rec.Mode.TheVariants.{Const}
use Rattle.go_base.specs.declared.ids.ObjId.{ObjId}
use Rattle.go_judge.specs.Headers.{Headers}
use Rattle.go_model.specs.Outcomes.Walk.{construct}
use Rattle.go_judge.specs.Naming.{Naming}
use Rattle.go_judge.specs.Quests.{Done}
use Rattle.go_expr.specs.Outcomes.{direction_by, first_kind, iota_view, limited_view, text_view}

-- the first item of a list, and the first two

pub first_and_rest : {X : Type 0} (xs : List X) (x : X) → 1 ≤ length xs → x ≡ get_or xs 0 x → x ∷ drop 1 xs ≡ xs
first_and_rest [] x le e = absurd (omega (arith, le))
first_and_rest (y ∷ ys) x le e = ap (λ z. z ∷ ys) e

pub two_and_rest : {X : Type 0} (xs : List X) (x y : X) → 2 ≤ length xs → x ≡ get_or xs 0 x → y ≡ get_or xs 1 y → x ∷ (y ∷ drop 2 xs) ≡ xs
two_and_rest [] x y le e f = absurd (omega (arith, le))
two_and_rest (a ∷ []) x y le e f = absurd (omega (arith, le))
two_and_rest (a ∷ (b ∷ rest)) x y le e f = (λ i. e i ∷ (f i ∷ rest))

-- values within the limits

cond_some : (b : Bool) (x y : ℤ) → cond b (Some x) None ≡ Some y → x ≡ y
cond_some true x y e = cc
cond_some false x y e = absurd (let never : None ≡ Some y = e in cc)

-- a value within the limits is the value
limited_is : (x y : ℤ) → limited x ≡ Some y → x ≡ y
limited_is (pos n) y e = cond_some (nat_lt n (2 ^ 127)) (pos n) y e
limited_is (negsuc n) y e = cond_some (nat_lt n (2 ^ 127)) (negsuc n) y e

by_limit : (headers : Headers) (kind : TypeData) (x : ℤ) (o : Option ℤ) → limited x ≡ o → limited_view kind o ≡ tested headers (at_whole wide_integer (Done (is_some o)) ∷ []) (Done (constant_record kind (Int x)))
by_limit headers kind x None e = refl
by_limit headers kind x (Some y) e = ap (λ v. Found (constant_record kind (Int v))) (sym (limited_is x y e))

-- what is asked whether it is within the limits, and then given
pub limited_outcome : (headers : Headers) (kind : TypeData) (x : ℤ) → limited_view kind (limited x) ≡ tested headers (at_whole wide_integer (Done (is_some (limited x))) ∷ []) (Done (constant_record kind (Int x)))
limited_outcome headers kind x = by_limit headers kind x (limited x) refl

-- strings within the limits

by_length : (headers : Headers) (bytes : List ℕ) (b : Bool)
    → (if b then Found (constant_record (basic_type UntypedString) (Text bytes)) else Broken long_text (Whole ∷ []))
    ≡ tested headers (at_whole long_text (Done b) ∷ []) (Done (constant_record (basic_type UntypedString) (Text bytes)))
by_length headers bytes true = refl
by_length headers bytes false = refl

pub text_outcome : (headers : Headers) (bytes : List ℕ) (parts : List (OutcomeData RecData)) → text_view bytes ≡ judged headers (bytes_literal bytes) parts
text_outcome headers bytes parts = by_length headers bytes (nat_le (length bytes) most_text)

-- IOTA

iota_by_limit : (headers : Headers) (d : ObjId) (x : ℤ) (o : Option ℤ) → limited x ≡ o → iota_view d o ≡ tested headers (at_whole wide_integer (Done (is_some o)) ∷ []) (Done (record (typed_record d Const untyped_int) { value = Some (Int x) }))
iota_by_limit headers d x None e = refl
iota_by_limit headers d x (Some y) e = ap (λ v. Found (record (typed_record d Const untyped_int) { value = Some (Int v) })) (sym (limited_is x y e))

pub iota_outcome : (headers : Headers) (d : ObjId) (n : ℕ) (parts : List (OutcomeData RecData)) → iota_view d (limited (pos n)) ≡ judged headers (name (Iota d (Some n))) parts
iota_outcome headers d n parts = iota_by_limit headers d (pos n) (limited (pos n)) refl

-- NODES OF A KIND

pub node_is : (t : Tree) (kind : NodeKind) (parts : Trees) → kind_of t ≡ kind → parts_of t ≡ parts → t ≡ branch (id_of t) (start_of t) (end_of t) kind (text_of t) parts
node_is (branch id from to k text ps) kind parts e f = (λ i. branch id from to (e i) text (f i))

chan_by_parts : (naming : Naming) (id from to : ℕ) (text : List ℕ) (parts : Trees) → construct naming (branch id from to ChanType text parts) ≡ channel (direction_by (first_kind (branch id from to ChanType text parts)))
chan_by_parts naming id from to text no_trees = refl
chan_by_parts naming id from to text (more_trees (branch i f t ArrowExpr x e) parts) = refl
chan_by_parts naming id from to text (more_trees (branch i f t kind x e) parts) = refl

pub at_chan : (naming : Naming) (t : Tree) → kind_of t ≡ ChanType → construct naming t ≡ channel (direction_by (first_kind t))
at_chan naming (branch id from to kind text parts) e =
    ap (λ k. construct naming (branch id from to k text parts)) e ∙ chan_by_parts naming id from to text parts
