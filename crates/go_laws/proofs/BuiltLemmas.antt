-- Something is asked of each node of what is built, where its identifiers that are asked for records denote something.
use Rattle.std.proofs.Common.{◌≡◌, ℕ, ◌<◌, Option, Some, None, List, [], ◌∷◌, ◌⊎◌, inl, inr, length, Contains, refl, arith}
use Rattle.go_tree.specs.declared.node_kind.NodeKind.TheVariants.{ArrayType, ArrowExpr, ChanType, EmbeddedPointer, FuncType, IntLit, InterfaceType, MapType, Name, ParenExpr, RuneLit, SelectorExpr, SliceType, StarExpr, StringLit, StructType}
use Rattle.go_tree.specs.Tree.{Tree, Trees, branch, id_of, kind_of, more_trees, no_trees}
use Rattle.go_module.proofs.MemberLemmas.{cons_cases, contains_none}
use Rattle.go_constructs.specs.declared.meaning.Meaning.{Meaning}
use Rattle.go_constructs.specs.declared.meaning.Meaning.TheVariants.{AnyType, BasicType, Declared, DefinedType, Iota, Other, Predeclared, Truth}
use Rattle.go_constructs.specs.Name.{name}
use Rattle.go_constructs.specs.Operators.Nodes.{binary_of, by_operator, unary_of}
use Rattle.go_constructs.specs.declared.operator.BinaryOp.{BinaryOp}
use Rattle.go_constructs.specs.declared.operator.UnaryOp.{UnaryOp}
use Rattle.go_constructs.specs.Selector.{selector}
use Rattle.go_judge.specs.Judged.{Asks, Construct}
use Rattle.go_judge.specs.Operands.{leaf, of_all, of_one, of_two}
use Rattle.go_judge.specs.Records.{HeaderData, RecData}
use Rattle.go_model.specs.Outcomes.Walk.{construct, many_operands}
use Rattle.go_judge.specs.Naming.{Naming}
use Rattle.go_constructs.specs.Meaning.{meaning_by}
use Rattle.go_model.proofs.FlatLemmas.{only_is}
use Rattle.go_laws.specs.BuiltTrees.{HasForm, IsBuilt, IsOperator}
use Rattle.go_laws.specs.Complete.{asked_in}
use Rattle.go_laws.proofs.Asked.{IsAsked}
use Rattle.go_laws.proofs.AskedLemmas.{asked_are_expressions}
use Rattle.go_laws.proofs.ListLemmas.{in_range}

-- CONSTRUCTS BY THEIR OPERANDS: with so many of these they are there, and with as many records something is asked

record Serves (c : Construct HeaderData RecData) (many : ℕ) : Type 0 where
  within : (n : ℕ) → Contains c.operands n → n < many
  asks : (records : List RecData) → length records ≡ length c.operands → (a : Asks HeaderData RecData) × (c.asks records ≡ Some a)

leaf_serves : (asks : Asks HeaderData RecData) (many : ℕ) → Serves (leaf asks) many
leaf_serves asks many = record { within = λ n h. absurd (contains_none n h); asks = with_none }
  where
    with_none : (records : List RecData) → length records ≡ 0 → (a : Asks HeaderData RecData) × ((leaf asks).asks records ≡ Some a)
    with_none [] same = (asks, refl)
    with_none (x ∷ xs) same = absurd (omega (arith, same))

one_serves : (asks : RecData → Asks HeaderData RecData) (many : ℕ) → many ≡ 1 → Serves (of_one asks) many
one_serves asks many is = record { within = λ n h. (let same : 0 ≡ n = only_is 0 n h in omega (arith, same, is)); asks = with_one }
  where
    with_one : (records : List RecData) → length records ≡ 1 → (a : Asks HeaderData RecData) × ((of_one asks).asks records ≡ Some a)
    with_one [] same = absurd (omega (arith, same))
    with_one (x ∷ []) same = (asks x, refl)
    with_one (x ∷ (y ∷ ys)) same = absurd (omega (arith, same))

two_serves : (asks : RecData → RecData → Asks HeaderData RecData) (many : ℕ) → many ≡ 2 → Serves (of_two asks) many
two_serves asks many is = record { within = λ n h. by_place n (cons_cases 0 (1 ∷ []) n h); asks = with_two }
  where
    by_place : (n : ℕ) → (0 ≡ n) ⊎ Contains (1 ∷ []) n → n < many
    by_place n (inl same) = omega (arith, same, is)
    by_place n (inr there) = let same : 1 ≡ n = only_is 1 n there in omega (arith, same, is)

    with_two : (records : List RecData) → length records ≡ 2 → (a : Asks HeaderData RecData) × ((of_two asks).asks records ≡ Some a)
    with_two [] same = absurd (omega (arith, same))
    with_two (x ∷ []) same = absurd (omega (arith, same))
    with_two (x ∷ (y ∷ [])) same = (asks x y, refl)
    with_two (x ∷ (y ∷ (z ∷ zs))) same = absurd (omega (arith, same))

all_serve : (many : ℕ) (asks : List RecData → Asks HeaderData RecData) → Serves (of_all many asks) many
all_serve many asks = record {
  within = λ n h. (let lt = (in_range 0 many n h).1 in omega (arith, lt));
  asks = λ records same. (asks records, refl);
}

name_serves : (m : Meaning) (many : ℕ) → (m ≡ Other → ⊥) → Serves (name m) many
name_serves (Declared d) many denotes = leaf_serves _ many
name_serves (DefinedType d) many denotes = leaf_serves _ many
name_serves (BasicType d basic) many denotes = leaf_serves _ many
name_serves (AnyType d) many denotes = leaf_serves _ many
name_serves (Truth d truth) many denotes = leaf_serves _ many
name_serves (Iota d (Some n)) many denotes = leaf_serves _ many
name_serves (Iota d None) many denotes = leaf_serves _ many
name_serves Predeclared many denotes = leaf_serves _ many
name_serves Other many denotes = absurd (denotes refl)

selector_serves : (m : Meaning) (many : ℕ) → many ≡ 1 → Serves (selector m) many
selector_serves (Declared d) many is = leaf_serves _ many
selector_serves (DefinedType d) many is = leaf_serves _ many
selector_serves (BasicType d basic) many is = leaf_serves _ many
selector_serves (AnyType d) many is = leaf_serves _ many
selector_serves (Truth d truth) many is = leaf_serves _ many
selector_serves (Iota d (Some n)) many is = leaf_serves _ many
selector_serves (Iota d None) many is = leaf_serves _ many
selector_serves Predeclared many is = leaf_serves _ many
selector_serves Other many is = one_serves _ many is

operator_serves : (op : Option BinaryOp) (other : Option UnaryOp) (many : ℕ) → IsOperator op other many → Serves (by_operator op other) many
operator_serves (Some op) other many is = two_serves _ many is
operator_serves None (Some op) many is = one_serves _ many is
operator_serves None None many is = absurd is

-- EACH NODE

module _ (naming : Naming) where
  -- an identifier denotes something
  abbrev pub Denotes : Tree → Type 0
  Denotes s = (id from to : ℕ) (text : List ℕ) (parts : Trees) → s ≡ branch id from to Name text parts → meaning_by naming id ≡ Other → ⊥

  form_serves : (t : Tree) → HasForm t (many_operands t) → Denotes t → Serves (construct naming t) (many_operands t)
  form_serves (branch id from to IntLit text parts) form denotes = leaf_serves _ _
  form_serves (branch id from to RuneLit text parts) form denotes = leaf_serves _ _
  form_serves (branch id from to StringLit text parts) form denotes = leaf_serves _ _
  form_serves (branch id from to Name text parts) form denotes = name_serves (meaning_by naming id) _ (denotes id from to text parts refl)
  form_serves (branch id from to SelectorExpr text (more_trees x (more_trees f no_trees))) form denotes = selector_serves (meaning_by naming (id_of f)) _ refl
  form_serves (branch id from to ParenExpr text parts) form denotes = one_serves _ _ form
  form_serves (branch id from to StarExpr text parts) form denotes = one_serves _ _ form
  form_serves (branch id from to EmbeddedPointer text parts) form denotes = one_serves _ _ form
  form_serves (branch id from to SliceType text parts) form denotes = one_serves _ _ form
  form_serves (branch id from to ArrayType text parts) form denotes = two_serves _ _ form
  form_serves (branch id from to MapType text parts) form denotes = two_serves _ _ form
  form_serves (branch id from to ChanType text (more_trees (branch i f t ArrowExpr x element) parts)) form denotes = one_serves _ _ form
  form_serves (branch id from to ChanType text parts) form denotes = one_serves _ _ form
  form_serves (branch id from to ArrowExpr text (more_trees (branch i f t ChanType x element) parts)) form denotes = one_serves _ _ form
  form_serves (branch id from to FuncType text (more_trees signature parts)) form denotes = all_serve _ _
  form_serves (branch id from to StructType text decls) form denotes = all_serve _ _
  form_serves (branch id from to InterfaceType text elems) form denotes = all_serve _ _
  form_serves t form denotes = operator_serves (binary_of (kind_of t)) (unary_of (kind_of t)) _ form

  pub built_asked : (t : Tree) → IsBuilt t → (s : Tree) → Denotes s → Contains (asked_in naming t) s → IsAsked naming s
  built_asked t built s denotes h =
      let serves = form_serves s (built.forms s (asked_are_expressions naming t s h)) denotes in
      record { within = serves.within; asks = serves.asks }
