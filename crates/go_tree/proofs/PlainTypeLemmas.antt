-- The plain lines of types: parameters and fields.
use Rattle.std.proofs.Common.{ℕ, Bool, true, false, [], ◌∷◌, refl}
use Rattle.go_tree.specs.declared.token.TokenKind.TheVariants.{Mul, Ellipsis, Comma}
use Rattle.go_tree.specs.declared.node_kind.NodeKind.TheVariants as k
use Rattle.go_tree.specs.declared.production.Production.{Production}
use Rattle.go_tree.specs.declared.production.Production.TheVariants as p
use Rattle.go_tree.specs.Grammar.RightSide.{RightSide}
use Rattle.go_tree.specs.Grammar.Words.{◌•◌, ◌or◌, tok, the, many, open_node, close, node}
use Rattle.go_tree.specs.Grammar.Types.{tag, selector_type}
use Rattle.go_tree.specs.Grammar.Trees.Sentence.{production}
use Rattle.go_tree.specs.Grammar.Plain.Types.{named_type, plain_param, plain_field}
use Rattle.go_tree.specs.Grammar.Plain.Lines.{ReadsSame}
use Rattle.go_tree.proofs.PlainLemmas.{same_alternatives}
use Rattle.go_tree.proofs.SameReadingLemmas.{same_refl, same_sym, same_trans, same_call, same_first, same_then, same_or, many_then}
use Rattle.go_tree.proofs.TypeArgumentLemmas.{factored_args_of_name, args_in_node_lem}

abbrev none_opened : ℕ → Production → Bool
none_opened k n = false

abbrev nameless_opened : ℕ → Production → Bool
nameless_opened k p.TypeNoBracket = true
nameless_opened k _ = false

-- a type that begins with `[`, apart
abbrev type_or_bracket : RightSide Production
type_or_bracket = the p.TypeNoBracket or production p.BracketType

any_type_mended : ReadsSame (production p.AnyType) (the p.TypeNoBracket or the p.BracketType)
any_type_mended = λ bytes. same_alternatives Production production bytes nameless_opened 8 (production p.AnyType) (the p.TypeNoBracket or the p.BracketType) (0 ∷ 1 ∷ 2 ∷ 9 ∷ 3 ∷ 4 ∷ 5 ∷ 6 ∷ 7 ∷ 8 ∷ []) (0 ∷ 1 ∷ 2 ∷ 4 ∷ 5 ∷ 6 ∷ 7 ∷ 8 ∷ 9 ∷ 3 ∷ []) refl refl

any_type : ReadsSame (the p.AnyType) type_or_bracket
any_type = same_trans (same_call p.AnyType) (same_trans any_type_mended (same_or (same_refl (the p.TypeNoBracket)) (same_call p.BracketType)))

-- a name and its arguments, the first of which is read as an expression or as a type
args_in_node : (g : RightSide Production) → ReadsSame (open_node • the p.Name • factored_args_of_name • g) (open_node • the p.Name • the p.TypeArgs • g)
args_in_node g = λ bytes. args_in_node_lem bytes g

-- ---- parameters

abbrev param_opened : RightSide Production
param_opened =
    open_node • (
    tok Ellipsis • the p.AnyType • close k.UnnamedVariadic
    or the p.TypeNoName • close k.UnnamedParam
    or the p.Name • production p.ParamAfterName
    )

-- a parameter whose type is a name with arguments, apart
abbrev param_with : RightSide Production → RightSide Production
param_with args =
    (node k.Param (the p.Name • type_or_bracket)
    or node k.VariadicParam (the p.Name • tok Ellipsis • the p.AnyType)
    or node k.UnnamedParam (the p.Name • selector_type or the p.Name or the p.TypeNoName)
    or node k.UnnamedVariadic (tok Ellipsis • the p.AnyType))
    or open_node • the p.Name • args • close k.UnnamedParam

abbrev param_by_bracket : RightSide Production
param_by_bracket =
    node k.Param (the p.Name • type_or_bracket)
    or node k.VariadicParam (the p.Name • tok Ellipsis • the p.AnyType)
    or node k.UnnamedParam (named_type or the p.TypeNoName)
    or node k.UnnamedVariadic (tok Ellipsis • the p.AnyType)

param_parted : ReadsSame param_opened (param_with factored_args_of_name)
param_parted = λ bytes. same_alternatives Production production bytes none_opened 8 param_opened (param_with factored_args_of_name) (9 ∷ 8 ∷ 4 ∷ 0 ∷ 5 ∷ 6 ∷ 1 ∷ 2 ∷ 3 ∷ 10 ∷ 11 ∷ 12 ∷ 13 ∷ 7 ∷ []) (3 ∷ 6 ∷ 7 ∷ 8 ∷ 2 ∷ 4 ∷ 5 ∷ 13 ∷ 1 ∷ 0 ∷ 9 ∷ 10 ∷ 11 ∷ 12 ∷ []) refl refl

param_joined : ReadsSame (param_with (the p.TypeArgs)) param_by_bracket
param_joined = λ bytes. same_alternatives Production production bytes none_opened 8 (param_with (the p.TypeArgs)) param_by_bracket (0 ∷ 1 ∷ 2 ∷ 3 ∷ 4 ∷ 5 ∷ 6 ∷ 8 ∷ 9 ∷ 10 ∷ 7 ∷ []) (0 ∷ 1 ∷ 2 ∷ 3 ∷ 4 ∷ 5 ∷ 6 ∷ 10 ∷ 7 ∷ 8 ∷ 9 ∷ []) refl refl

param_mended : ReadsSame param_opened param_by_bracket
param_mended = same_trans param_parted (same_trans (same_or (same_refl _) (args_in_node (close k.UnnamedParam))) param_joined)

pub plain_param_lem : ReadsSame (production p.Param) plain_param
plain_param_lem = same_trans (same_then (same_or (same_refl _) (same_or (same_refl _) (same_then (same_call p.ParamAfterName))))) (same_trans param_mended (same_or (same_then (same_first (same_then (same_sym any_type)))) (same_refl _)))

-- ---- fields

abbrev field_opened : RightSide Production
field_opened =
    open_node • (tok Mul • the p.TypeName • tag • close k.EmbeddedPointer or the p.Name • production p.FieldAfterName)

-- a name behind the first
abbrev next_name : RightSide Production
next_name = tok Comma • the p.Name

-- a field that embeds a name with arguments, apart
abbrev field_with : RightSide Production → RightSide Production
field_with args =
    (node k.Field (the p.Name • (next_name • many next_name • the p.AnyType • tag or type_or_bracket • tag))
    or node k.EmbeddedField ((the p.Name • selector_type or the p.Name) • tag)
    or node k.EmbeddedPointer (tok Mul • the p.TypeName • tag))
    or open_node • the p.Name • args • tag • close k.EmbeddedField

abbrev field_by_bracket : RightSide Production
field_by_bracket =
    node k.Field (the p.Name • (next_name • many next_name • the p.AnyType • tag or type_or_bracket • tag))
    or node k.EmbeddedField (named_type • tag)
    or node k.EmbeddedPointer (tok Mul • the p.TypeName • tag)

field_parted : ReadsSame field_opened (field_with factored_args_of_name)
field_parted = λ bytes. same_alternatives Production production bytes none_opened 8 field_opened (field_with factored_args_of_name) (16 ∷ 17 ∷ 0 ∷ 1 ∷ 2 ∷ 3 ∷ 10 ∷ 11 ∷ 12 ∷ 13 ∷ 4 ∷ 5 ∷ 6 ∷ 7 ∷ 8 ∷ 9 ∷ 18 ∷ 19 ∷ 20 ∷ 21 ∷ 22 ∷ 23 ∷ 24 ∷ 25 ∷ 14 ∷ 15 ∷ []) (2 ∷ 3 ∷ 4 ∷ 5 ∷ 10 ∷ 11 ∷ 12 ∷ 13 ∷ 14 ∷ 15 ∷ 6 ∷ 7 ∷ 8 ∷ 9 ∷ 24 ∷ 25 ∷ 0 ∷ 1 ∷ 16 ∷ 17 ∷ 18 ∷ 19 ∷ 20 ∷ 21 ∷ 22 ∷ 23 ∷ []) refl refl

field_joined : ReadsSame (field_with (the p.TypeArgs)) field_by_bracket
field_joined = λ bytes. same_alternatives Production production bytes none_opened 8 (field_with (the p.TypeArgs)) field_by_bracket (0 ∷ 1 ∷ 2 ∷ 3 ∷ 4 ∷ 5 ∷ 6 ∷ 7 ∷ 8 ∷ 9 ∷ 10 ∷ 11 ∷ 12 ∷ 13 ∷ 16 ∷ 17 ∷ 18 ∷ 19 ∷ 14 ∷ 15 ∷ []) (0 ∷ 1 ∷ 2 ∷ 3 ∷ 4 ∷ 5 ∷ 6 ∷ 7 ∷ 8 ∷ 9 ∷ 10 ∷ 11 ∷ 12 ∷ 13 ∷ 18 ∷ 19 ∷ 14 ∷ 15 ∷ 16 ∷ 17 ∷ []) refl refl

field_mended : ReadsSame field_opened field_by_bracket
field_mended = same_trans field_parted (same_trans (same_or (same_refl _) (args_in_node (tag • close k.EmbeddedField))) field_joined)

-- the type of the names, where one name is apart
names_type : ReadsSame (next_name • many next_name • the p.AnyType • tag or type_or_bracket • tag) (many next_name • the p.AnyType • tag)
names_type = same_sym (same_trans (many_then next_name (the p.AnyType • tag)) (same_or (same_refl _) (same_first any_type)))

pub plain_field_lem : ReadsSame (production p.Field) plain_field
plain_field_lem = same_trans (same_then (same_or (same_refl _) (same_then (same_call p.FieldAfterName)))) (same_trans field_mended (same_or (same_then (same_first (same_then names_type))) (same_refl _)))
