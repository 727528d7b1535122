-- A type, an expression and each node within types is what it stands for, where its parts are what they stand for.
use Rattle.std.proofs.Common.{◌≡◌, ℕ, Bool, true, false, cond, List, [], ◌∷◌, length, Contains, refl, ap, ◌∙◌, subst, ⊎_elim}
use Rattle.std.specs.Prelude.{filter, not}
use Rattle.std.specs.List.{flat_map}
use Rattle.std.proofs.lemmas.List.{append-nil}
use Rattle.go_tree.specs.declared.node_kind.NodeKind.{NodeKind}
use Rattle.go_tree.specs.declared.node_kind.NodeKind.TheVariants as k
use Rattle.go_tree.specs.Tree.{Tree, Trees, branch, kind_of, list_of, more_trees, no_trees, parts_of}
use Rattle.go_module.specs.Names.Inner.{inner_parts, is_tag_kind, last_alone}
use Rattle.go_module.proofs.MemberLemmas.{cons_cases, contains_none}
use Rattle.go_form.specs.declared.role.Role.TheVariants as r
use Rattle.go_form.specs.BuiltOperators.{operator_parts}
use Rattle.go_form.specs.BuiltTypes.{literal_parts}
use Rattle.go_operands.specs.Operands.{held_of, operands_from, operands_of, passes}
use Rattle.go_operands.proofs.OperandLemmas.{operands-inner}
use Rattle.go_model.specs.Outcomes.Walk.{many_operands}
use Rattle.go_model.proofs.FlatLemmas.{filter_within, only_is}
use Rattle.go_laws.specs.BuiltTrees.{HasForm, IsBuilt, IsIdentifier, identifier, is_named}
use Rattle.go_laws.proofs.BuiltPartLemmas.{Formed, IsHanded, IsHolding, built_by, each_of, handed_held, handed_itself, holding_by, operands_within}
use Rattle.go_laws.proofs.OperandNameLemmas.{inner_part, self_expression}
use Rattle.go_laws.proofs.PickedLemmas.{picked_contains, picked_last}
use Rattle.go_laws.proofs.BuiltRoles.{AllStand, AreFieldParts, HasParts, HasPartsAs, IsOneHanded, each_stands}
use Rattle.go_laws.proofs.FloatLemmas.{is_float}

-- OPERANDS OF ONE PART OR TWO

built_of_one : (t x : Tree) → HasForm t (many_operands t) → inner_parts t ≡ x ∷ [] → passes (kind_of t) (kind_of x) ≡ false
    → IsBuilt x → IsBuilt t
built_of_one t x form inner stays built =
    built_by t form
    (λ part h. subst (IsHanded (kind_of t)) (only_is x part (subst (λ (us : List Tree). Contains us part) inner h))
    (handed_itself (kind_of t) x stays built))

built_of_two : (t x y : Tree) → HasForm t (many_operands t) → inner_parts t ≡ x ∷ (y ∷ [])
    → passes (kind_of t) (kind_of x) ≡ false → passes (kind_of t) (kind_of y) ≡ false → IsBuilt x → IsBuilt y → IsBuilt t
built_of_two t x y form inner first second left right =
    built_by t form (λ part h.
    each_of (IsHanded (kind_of t)) (x ∷ (y ∷ [])) (handed_itself (kind_of t) x first left, (handed_itself (kind_of t) y second right, tt)) part
    (subst (λ (us : List Tree). Contains us part) inner h))

many_of_one : (t x : Tree) → inner_parts t ≡ x ∷ [] → length (operands_from (kind_of t) x) ≡ 1 → many_operands t ≡ 1
many_of_one t x inner one =
    ap length (operands-inner t ∙ ap (flat_map (operands_from (kind_of t))) inner ∙ append-nil (operands_from (kind_of t) x)) ∙ one

-- what holds one part
holding_of_one : (t x : Tree) → held_of t ≡ operands_of t → is_named (kind_of t) ≡ false → inner_parts t ≡ x ∷ []
    → IsHanded (kind_of t) x → IsHolding t
holding_of_one t x same plain inner handed =
    holding_by t same plain (λ part h. subst (IsHanded (kind_of t)) (only_is x part (subst (λ (us : List Tree). Contains us part) inner h)) handed)

-- NAMES

name_built : (id from to : ℕ) (text : List ℕ) → IsBuilt (branch id from to k.Name text no_trees)
name_built id from to text = built_by _ refl (λ part h. absurd (contains_none part h))

pub identifier_built : {t : Tree} → IsIdentifier t → IsBuilt t
identifier_built (identifier id from to text) = name_built id from to text

selector_built : (id from to : ℕ) (text : List ℕ) (x f : Tree) → IsIdentifier x → IsIdentifier f
    → IsBuilt (branch id from to k.SelectorExpr text (more_trees x (more_trees f no_trees)))
selector_built id from to text x f leaf other =
    built_of_one _ x (leaf, other) refl refl (identifier_built leaf)

-- TYPES

as_arrow : (id from to : ℕ) (text : List ℕ) (x : Tree)
    → HasPartsAs r.AnyType (branch id from to k.ArrowExpr text (more_trees x no_trees))
    → IsBuilt (branch id from to k.ArrowExpr text (more_trees x no_trees))
as_arrow id from to text (branch i a b k.ChanType name element) h =
    let x = branch i a b k.ChanType name element in
    let t = branch id from to k.ArrowExpr text (more_trees x no_trees) in
    built_by t (many_of_one t x refl h.many) (λ part among. subst (IsHanded k.ArrowExpr) (only_is x part among) h.handed)
as_arrow id from to text x h = absurd h

as_literal : (t : Tree) → HasParts (literal_parts (kind_of t) (parts_of t)) (parts_of t) → IsBuilt t
as_literal (branch id from to k.ArrayType text (more_trees n (more_trees e no_trees))) h =
    built_of_two _ n e refl refl refl refl h.0 h.1
as_literal (branch id from to k.SliceType text (more_trees e no_trees)) h = built_of_one _ e refl refl refl h
as_literal (branch id from to k.StructType text parts) h =
    built_by _ tt (λ part among. each_stands r.FieldDecl parts h part among)
as_literal (branch id from to k.FuncType text (more_trees s no_trees)) h =
    built_by _ tt (λ part among. subst (IsHanded k.FuncType) (only_is s part among) (handed_held k.FuncType s refl h))
as_literal (branch id from to k.InterfaceType text parts) h =
    built_by _ tt (λ part among. handed_held k.InterfaceType part refl (each_stands r.InterfaceElem parts h part among))
as_literal (branch id from to k.MapType text (more_trees n (more_trees e no_trees))) h =
    built_of_two _ n e refl refl refl refl h.0 h.1
as_literal (branch id from to k.ChanType text (more_trees x no_trees)) h =
    let t = branch id from to k.ChanType text (more_trees x no_trees) in
    built_by t (many_of_one t x refl h.many) (λ part among. subst (IsHanded k.ChanType) (only_is x part among) h.handed)
as_literal (branch id from to k.ArrowExpr text no_trees) h = absurd h
as_literal (branch id from to k.ArrowExpr text (more_trees x no_trees)) h = as_arrow id from to text x h
as_literal (branch id from to k.ArrowExpr text (more_trees x (more_trees y ys))) h = absurd h
as_literal t h = absurd h

pub as_type : (t : Tree) → HasPartsAs r.AnyType t → IsBuilt t
as_type (branch id from to k.Name text no_trees) h = name_built id from to text
as_type (branch id from to k.SelectorExpr text (more_trees x (more_trees f no_trees))) h =
    selector_built id from to text x f h.0 h.1
as_type (branch id from to k.ParenExpr text (more_trees x no_trees)) h = built_of_one _ x refl refl refl h
as_type (branch id from to k.StarExpr text (more_trees x no_trees)) h = built_of_one _ x refl refl refl h
as_type t h = as_literal t h

-- CHANNELS

-- behind an arrow, and behind `chan`, a name is an operand
arrow_holds : (kind : NodeKind) → is_named kind ≡ true → passes k.ArrowExpr kind ≡ false
arrow_holds k.ChanType named = absurd (let never : false ≡ true = named in cc)
arrow_holds kind named = refl

chan_holds : (kind : NodeKind) → is_named kind ≡ true → passes k.ChanType kind ≡ false
chan_holds k.ArrowExpr named = absurd (let never : false ≡ true = named in cc)
chan_holds kind named = refl

arrow_holding : (id from to : ℕ) (text : List ℕ) (x : Tree) → IsBuilt x
    → IsHolding (branch id from to k.ArrowExpr text (more_trees x no_trees))
arrow_holding id from to text x built = record {
  formed = λ u h. subst Formed (only_is x u h) built.forms;
  operands = operands_within (branch id from to k.ArrowExpr text (more_trees x no_trees))
      (λ part h. (subst IsBuilt (only_is x part h) built).operands) (λ part h. arrow_holds (kind_of part));
  plain = refl;
}

chan_holding : (id from to : ℕ) (text : List ℕ) (x : Tree) → IsBuilt x
    → IsHolding (branch id from to k.ChanType text (more_trees x no_trees))
chan_holding id from to text x built = record {
  formed = λ u h. subst Formed (only_is x u h) built.forms;
  operands = operands_within (branch id from to k.ChanType text (more_trees x no_trees))
      (λ part h. (subst IsBuilt (only_is x part h) built).operands) (λ part h. chan_holds (kind_of part));
  plain = refl;
}

one_itself : (kind : NodeKind) (t : Tree) → passes kind (kind_of t) ≡ false → IsBuilt t → IsOneHanded kind t
one_itself kind t stays built = record {
  handed = handed_itself kind t stays built;
  many = ap (λ (b : Bool). length (cond b (held_of t) (t ∷ []))) stays;
}

pub as_channel_element : (t : Tree) → HasPartsAs r.ChannelElement t → IsOneHanded k.ChanType t
as_channel_element (branch id from to k.ArrowExpr text no_trees) h = absurd h
as_channel_element (branch id from to k.ArrowExpr text (more_trees x no_trees)) h =
    record { handed = handed_held k.ChanType _ refl (arrow_holding id from to text x h); many = refl }
as_channel_element (branch id from to k.ArrowExpr text (more_trees x (more_trees y ys))) h = absurd h
as_channel_element (branch id from to kind text parts) h = one_itself k.ChanType _ refl (as_type _ h)

pub as_receive_channel : (t : Tree) → HasPartsAs r.ReceiveChannel t → IsOneHanded k.ArrowExpr t
as_receive_channel (branch id from to k.ChanType text (more_trees x no_trees)) h =
    record { handed = handed_held k.ArrowExpr _ refl (chan_holding id from to text x h); many = refl }
as_receive_channel t h = absurd h

-- SIGNATURES

pub as_signature : (t : Tree) → HasPartsAs r.Signature t → IsHolding t
as_signature (branch id from to k.Signature text (more_trees p no_trees)) h = holding_of_one _ p refl refl refl h
as_signature (branch id from to k.Signature text (more_trees p (more_trees y no_trees))) h =
    holding_by _ refl refl (each_of (IsHanded k.Signature) (p ∷ (y ∷ [])) (h.0, (h.1, tt)))
as_signature t h = absurd h

params_handed : (id from to : ℕ) (text : List ℕ) (parts : Trees) → AllStand r.ParameterDecl parts
    → IsHanded k.Signature (branch id from to k.Params text parts)
params_handed id from to text parts all =
    let t = branch id from to k.Params text parts in
    handed_held k.Signature t refl
    (holding_by t refl refl (λ part among. handed_held k.Params part refl (each_stands r.ParameterDecl parts all part (inner_part t part among))))

pub as_parameters : (t : Tree) → HasPartsAs r.Parameters t → IsHanded k.Signature t
as_parameters (branch id from to k.Params text parts) h = params_handed id from to text parts h
as_parameters t h = absurd h

pub as_result : (t : Tree) → HasPartsAs r.Results t → IsHanded k.Signature t
as_result (branch id from to k.Params text parts) h = params_handed id from to text parts h
as_result (branch id from to kind text parts) h = handed_itself k.Signature _ refl (as_type _ h)

pub as_parameter : (t : Tree) → HasPartsAs r.ParameterDecl t → IsHolding t
as_parameter (branch id from to k.Param text (more_trees name (more_trees x no_trees))) h =
    holding_of_one _ x refl refl refl (handed_itself k.Param x refl h.1)
as_parameter (branch id from to k.UnnamedParam text (more_trees x no_trees)) h =
    holding_of_one _ x refl refl refl (handed_itself k.UnnamedParam x refl h)
as_parameter (branch id from to k.VariadicParam text (more_trees name (more_trees x no_trees))) h =
    holding_of_one _ x refl refl refl (handed_itself k.VariadicParam x refl h.1)
as_parameter (branch id from to k.UnnamedVariadic text (more_trees x no_trees)) h =
    holding_of_one _ x refl refl refl (handed_itself k.UnnamedVariadic x refl h)
as_parameter t h = absurd h

-- FIELDS AND ELEMENTS

filter_passes : {X : Type 0} (test : X → Bool) (xs : List X) (x : X) → Contains (filter test xs) x → test x ≡ true
filter_passes test [] x h = absurd (contains_none x h)
filter_passes {X = X} test (y ∷ ys) x h = by_test (test y) refl h (filter_passes test ys x)
  where
    by_test : (b : Bool) → test y ≡ b → Contains (cond b (y ∷ filter test ys) (filter test ys)) x
        → (Contains (filter test ys) x → test x ≡ true) → test x ≡ true
    by_test true is i later =
        ⊎_elim (λ (here : y ≡ x). subst (λ (z : X). test z ≡ true) here is) later (cons_cases y (filter test ys) x i)
    by_test false is i later = later i

not_tag : (b : Bool) → not b ≡ true → b ≡ false
not_tag true h = let never : false ≡ true = h in cc
not_tag false h = refl

-- the type of a field is a part other than a tag
field_part : (name : Tree) (parts : Trees) → IsIdentifier name → AreFieldParts parts → (t : Tree)
    → Contains (last_alone (λ u. u) (filter (λ u. not (is_tag_kind (kind_of u))) (name ∷ list_of parts))) t → IsBuilt t
field_part name parts leaf built t h =
    let plain : Tree → Bool = λ u. not (is_tag_kind (kind_of u)) in
    let among = picked_contains t (picked_last (λ (u : Tree). u) (filter plain (name ∷ list_of parts))) h in
    let untagged = not_tag (is_tag_kind (kind_of t)) (filter_passes plain (name ∷ list_of parts) t among) in
    ⊎_elim
    (λ (here : name ≡ t). subst IsBuilt here (identifier_built leaf))
    (λ (there : Contains (list_of parts) t). built t there untagged)
    (cons_cases name (list_of parts) t (filter_within plain (name ∷ list_of parts) t among))

embedded : (id from to : ℕ) (text : List ℕ) (x : Tree) (tags : Trees) → IsBuilt x
    → IsHanded k.StructType (branch id from to k.EmbeddedField text (more_trees x tags))
embedded id from to text x tags built =
    let t = branch id from to k.EmbeddedField text (more_trees x tags) in
    handed_held k.StructType t refl (holding_of_one t x refl refl refl (handed_itself k.EmbeddedField x refl built))

embedded_pointer : (id from to : ℕ) (text : List ℕ) (x : Tree) (tags : Trees) → IsBuilt x
    → IsHanded k.StructType (branch id from to k.EmbeddedPointer text (more_trees x tags))
embedded_pointer id from to text x tags built =
    let t = branch id from to k.EmbeddedPointer text (more_trees x tags) in
    handed_itself k.StructType t refl (built_of_one t x refl refl refl built)

pub as_field : (t : Tree) → HasPartsAs r.FieldDecl t → IsHanded k.StructType t
as_field (branch id from to k.Field text (more_trees name parts)) h =
    let t = branch id from to k.Field text (more_trees name parts) in
    handed_held k.StructType t refl
    (holding_by t refl refl (λ part among. handed_itself k.Field part refl (field_part name parts h.0 h.1 part among)))
as_field (branch id from to k.EmbeddedField text (more_trees x no_trees)) h = embedded id from to text x no_trees h
as_field (branch id from to k.EmbeddedField text (more_trees x (more_trees tag no_trees))) h =
    embedded id from to text x (more_trees tag no_trees) h.0
as_field (branch id from to k.EmbeddedPointer text (more_trees x no_trees)) h = embedded_pointer id from to text x no_trees h
as_field (branch id from to k.EmbeddedPointer text (more_trees x (more_trees tag no_trees))) h =
    embedded_pointer id from to text x (more_trees tag no_trees) h.0
as_field t h = absurd h

pub as_interface_elem : (t : Tree) → HasPartsAs r.InterfaceElem t → IsHolding t
as_interface_elem (branch id from to k.MethodElem text (more_trees name (more_trees s no_trees))) h =
    holding_of_one _ s refl refl refl (handed_held k.MethodElem s refl h.1)
as_interface_elem (branch id from to k.Union text (more_trees (branch i a b k.TildeType name parts) no_trees)) h =
    absurd (h.forms (branch i a b k.TildeType name parts) (self_expression (branch i a b k.TildeType name parts)))
as_interface_elem (branch id from to k.Union text (more_trees (branch i a b kind name parts) no_trees)) h =
    let x = branch i a b kind name parts in
    holding_of_one _ x refl refl refl (handed_itself k.Union x refl h)
as_interface_elem t h = absurd h

-- EXPRESSIONS

leaf_built : (t : Tree) → HasForm t (many_operands t) → inner_parts t ≡ [] → IsBuilt t
leaf_built t form inner = built_by t form (λ part h. absurd (contains_none part (subst (λ (us : List Tree). Contains us part) inner h)))

as_operator : (t : Tree) → HasParts (operator_parts (kind_of t) (parts_of t)) (parts_of t) → IsBuilt t
as_operator (branch id from to k.LogicalOrExpr text (more_trees x (more_trees y no_trees))) h =
    built_of_two _ x y refl refl refl refl h.0 h.1
as_operator (branch id from to k.LogicalAndExpr text (more_trees x (more_trees y no_trees))) h =
    built_of_two _ x y refl refl refl refl h.0 h.1
as_operator (branch id from to k.EqualExpr text (more_trees x (more_trees y no_trees))) h =
    built_of_two _ x y refl refl refl refl h.0 h.1
as_operator (branch id from to k.NotEqualExpr text (more_trees x (more_trees y no_trees))) h =
    built_of_two _ x y refl refl refl refl h.0 h.1
as_operator (branch id from to k.LessExpr text (more_trees x (more_trees y no_trees))) h =
    built_of_two _ x y refl refl refl refl h.0 h.1
as_operator (branch id from to k.LessEqualExpr text (more_trees x (more_trees y no_trees))) h =
    built_of_two _ x y refl refl refl refl h.0 h.1
as_operator (branch id from to k.GreaterExpr text (more_trees x (more_trees y no_trees))) h =
    built_of_two _ x y refl refl refl refl h.0 h.1
as_operator (branch id from to k.GreaterEqualExpr text (more_trees x (more_trees y no_trees))) h =
    built_of_two _ x y refl refl refl refl h.0 h.1
as_operator (branch id from to k.AddExpr text (more_trees x (more_trees y no_trees))) h =
    built_of_two _ x y refl refl refl refl h.0 h.1
as_operator (branch id from to k.SubExpr text (more_trees x (more_trees y no_trees))) h =
    built_of_two _ x y refl refl refl refl h.0 h.1
as_operator (branch id from to k.OrExpr text (more_trees x (more_trees y no_trees))) h =
    built_of_two _ x y refl refl refl refl h.0 h.1
as_operator (branch id from to k.XorExpr text (more_trees x (more_trees y no_trees))) h =
    built_of_two _ x y refl refl refl refl h.0 h.1
as_operator (branch id from to k.MulExpr text (more_trees x (more_trees y no_trees))) h =
    built_of_two _ x y refl refl refl refl h.0 h.1
as_operator (branch id from to k.QuoExpr text (more_trees x (more_trees y no_trees))) h =
    built_of_two _ x y refl refl refl refl h.0 h.1
as_operator (branch id from to k.RemExpr text (more_trees x (more_trees y no_trees))) h =
    built_of_two _ x y refl refl refl refl h.0 h.1
as_operator (branch id from to k.ShlExpr text (more_trees x (more_trees y no_trees))) h =
    built_of_two _ x y refl refl refl refl h.0 h.1
as_operator (branch id from to k.ShrExpr text (more_trees x (more_trees y no_trees))) h =
    built_of_two _ x y refl refl refl refl h.0 h.1
as_operator (branch id from to k.AndExpr text (more_trees x (more_trees y no_trees))) h =
    built_of_two _ x y refl refl refl refl h.0 h.1
as_operator (branch id from to k.AndNotExpr text (more_trees x (more_trees y no_trees))) h =
    built_of_two _ x y refl refl refl refl h.0 h.1
as_operator (branch id from to k.PlusExpr text (more_trees x no_trees)) h = built_of_one _ x refl refl refl h
as_operator (branch id from to k.MinusExpr text (more_trees x no_trees)) h = built_of_one _ x refl refl refl h
as_operator (branch id from to k.NotExpr text (more_trees x no_trees)) h = built_of_one _ x refl refl refl h
as_operator (branch id from to k.ComplementExpr text (more_trees x no_trees)) h = built_of_one _ x refl refl refl h
as_operator t h = as_literal t h

pub as_expression : (t : Tree) → is_float (kind_of t) ≡ false → HasPartsAs r.Expression t → IsBuilt t
as_expression (branch id from to k.IntLit text no_trees) plain h = leaf_built _ refl refl
as_expression (branch id from to k.FloatLit text parts) plain h = absurd (let never : true ≡ false = plain in cc)
as_expression (branch id from to k.RuneLit text no_trees) plain h = leaf_built _ refl refl
as_expression (branch id from to k.StringLit text no_trees) plain h = leaf_built _ refl refl
as_expression (branch id from to k.Name text no_trees) plain h = leaf_built _ refl refl
as_expression (branch id from to k.SelectorExpr text (more_trees x (more_trees f no_trees))) plain h =
    selector_built id from to text x f h.0 h.1
as_expression (branch id from to k.ParenExpr text (more_trees x no_trees)) plain h = built_of_one _ x refl refl refl h
as_expression t plain h = as_operator t h

pub as_identifier : (t : Tree) → HasPartsAs r.Identifier t → IsIdentifier t
as_identifier (branch id from to k.Name text no_trees) h = identifier id from to text
as_identifier t h = absurd h
