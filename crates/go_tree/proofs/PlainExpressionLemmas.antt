-- The plain lines of expressions: arguments, and what follows a name.
use Rattle.std.proofs.Common.{ℕ, Bool, true, false, [], ◌∷◌, refl}
use Rattle.go_tree.specs.declared.token.TokenKind.TheVariants.{Ellipsis, LeftParen, Comma, RightParen}
use Rattle.go_tree.specs.declared.node_kind.NodeKind.TheVariants as k
use Rattle.go_tree.specs.declared.production.Form.{Form}
use Rattle.go_tree.specs.declared.production.Form.TheVariants.{Plain, Header}
use Rattle.go_tree.specs.declared.production.Production.{Production}
use Rattle.go_tree.specs.declared.production.Production.TheVariants as p
use Rattle.go_tree.specs.Grammar.RightSide.{RightSide, Nothing}
use Rattle.go_tree.specs.Grammar.Words.{◌•◌, ◌or◌, tok, the, opt, many, reopen_last, close}
use Rattle.go_tree.specs.Grammar.Expressions.{call, literal, dot, index, prefixed}
use Rattle.go_tree.specs.Grammar.Trees.Sentence.{production}
use Rattle.go_tree.specs.Grammar.Plain.Expressions.{plain_selector, plain_index, plain_call, plain_suffix, plain_after_name, plain_after_selector, plain_after_index, plain_unary, plain_call_or_dot}
use Rattle.go_tree.specs.Grammar.Plain.Lines.{ReadsSame}
use Rattle.go_tree.proofs.PlainLemmas.{same_alternatives}
use Rattle.go_tree.proofs.SameReadingLemmas.{same_refl, same_sym, same_trans, same_call, same_first, same_then, same_or, opt_many, token_passes, first_passes, repeats}

abbrev none_opened : ℕ → Production → Bool
none_opened k n = false

abbrev rest_opened : ℕ → Production → Bool
rest_opened k p.CallRest = true
rest_opened k _ = false

abbrev suffix_opened : ℕ → Production → Bool
suffix_opened k p.Suffix = true
suffix_opened k _ = false

-- what ends the arguments
abbrev call_end : RightSide Production
call_end =
    tok RightParen • close k.CallExpr or tok Ellipsis • opt (tok Comma) • tok RightParen • close k.SpreadCallExpr
    or tok Comma • tok RightParen • close k.CallExpr

abbrev next_argument : RightSide Production
next_argument = tok Comma • the (p.Expr Plain)

after_arg_once : ReadsSame (production p.AfterArg) (next_argument • the p.AfterArg or call_end)
after_arg_once = λ bytes. same_alternatives Production production bytes rest_opened 8 (production p.AfterArg) (next_argument • the p.AfterArg or call_end) (1 ∷ 2 ∷ 3 ∷ 4 ∷ 0 ∷ []) (4 ∷ 0 ∷ 1 ∷ 2 ∷ 3 ∷ []) refl refl

after_arg : ReadsSame (the p.AfterArg) (many next_argument • call_end)
after_arg = repeats (the p.AfterArg) next_argument call_end (same_trans (same_call p.AfterArg) after_arg_once) (first_passes (tok Comma) (the (p.Expr Plain)) (token_passes Comma))

call_rest : ReadsSame (the p.CallRest) (tok RightParen • close k.CallExpr or the (p.Expr Plain) • many next_argument • call_end)
call_rest = same_trans (same_call p.CallRest) (same_or (same_refl (tok RightParen • close k.CallExpr)) (same_then after_arg))

call_mended : ReadsSame (reopen_last • tok LeftParen • (tok RightParen • close k.CallExpr or the (p.Expr Plain) • many next_argument • call_end)) plain_call
call_mended = λ bytes. same_alternatives Production production bytes none_opened 8 (reopen_last • tok LeftParen • (tok RightParen • close k.CallExpr or the (p.Expr Plain) • many next_argument • call_end)) (plain_call) (2 ∷ 1 ∷ 3 ∷ 4 ∷ 0 ∷ []) (4 ∷ 1 ∷ 0 ∷ 2 ∷ 3 ∷ []) refl refl

pub plain_call_lem : ReadsSame call plain_call
plain_call_lem = same_trans (same_then (same_then call_rest)) call_mended

suffix_mended : ReadsSame (dot Nothing Nothing or index Nothing Nothing or plain_call) plain_suffix
suffix_mended = λ bytes. same_alternatives Production production bytes none_opened 8 (dot Nothing Nothing or index Nothing Nothing or plain_call) (plain_suffix) (10 ∷ 9 ∷ 0 ∷ 3 ∷ 5 ∷ 7 ∷ 1 ∷ 2 ∷ 4 ∷ 6 ∷ 8 ∷ 11 ∷ 12 ∷ 13 ∷ 14 ∷ 15 ∷ []) (2 ∷ 6 ∷ 7 ∷ 3 ∷ 8 ∷ 4 ∷ 9 ∷ 5 ∷ 10 ∷ 1 ∷ 0 ∷ 11 ∷ 12 ∷ 13 ∷ 14 ∷ 15 ∷ []) refl refl

pub plain_suffix_lem : ReadsSame (production p.Suffix) plain_suffix
plain_suffix_lem = same_trans (same_or (same_refl (dot Nothing Nothing)) (same_or (same_refl (index Nothing Nothing)) plain_call_lem)) suffix_mended

-- what follows a selector is replaced
dot_same : {g h : RightSide Production} (x : RightSide Production) → ReadsSame g h → ReadsSame (dot g x) (dot h x)
dot_same x q = same_then (same_then (same_or (same_refl _) (same_then (same_then q))))

-- what follows an index is replaced
index_same : {g h : RightSide Production} (x : RightSide Production) → ReadsSame g h → ReadsSame (index g x) (index h x)
index_same x q = same_then (same_then (same_or (same_refl _) (same_then (same_or (same_then (same_then (same_then q))) (same_refl _)))))

abbrev suffixes : RightSide Production
suffixes = many (the p.Suffix)

-- [ g ] { Suffix }, with its first suffix apart
abbrev before_suffixes : RightSide Production → RightSide Production
before_suffixes g = g • suffixes or the p.Suffix • suffixes or Nothing

after_index_mended : ReadsSame ((the p.Suffix or literal) • suffixes or Nothing) (before_suffixes literal)
after_index_mended = λ bytes. same_alternatives Production production bytes none_opened 8 ((the p.Suffix or literal) • suffixes or Nothing) (before_suffixes literal) (1 ∷ 0 ∷ 2 ∷ []) (1 ∷ 0 ∷ 2 ∷ []) refl refl

pub plain_after_index_lem : ReadsSame (opt (the p.AfterIndex)) plain_after_index
plain_after_index_lem = same_trans (same_or (same_call p.AfterIndex) (same_refl Nothing)) (same_trans after_index_mended (same_sym (opt_many literal (the p.Suffix))))

after_selector_mended : ReadsSame ((dot suffixes suffixes or index plain_after_index suffixes or (call or literal) • suffixes) or Nothing) (before_suffixes (opt plain_index • literal))
after_selector_mended = λ bytes. same_alternatives Production production bytes suffix_opened 8 ((dot suffixes suffixes or index plain_after_index suffixes or (call or literal) • suffixes) or Nothing) (before_suffixes (opt plain_index • literal)) (3 ∷ 4 ∷ 5 ∷ 6 ∷ 7 ∷ 8 ∷ 0 ∷ 9 ∷ 1 ∷ 10 ∷ 11 ∷ 12 ∷ 13 ∷ 14 ∷ 2 ∷ 15 ∷ []) (6 ∷ 8 ∷ 14 ∷ 0 ∷ 1 ∷ 2 ∷ 3 ∷ 4 ∷ 5 ∷ 7 ∷ 9 ∷ 10 ∷ 11 ∷ 12 ∷ 13 ∷ 15 ∷ []) refl refl

after_selector_opened : ReadsSame (production p.AfterSelector) (dot suffixes suffixes or index plain_after_index suffixes or (call or literal) • suffixes)
after_selector_opened = same_or (same_refl (dot suffixes suffixes)) (same_or (index_same suffixes plain_after_index_lem) (same_refl ((call or literal) • suffixes)))

pub plain_after_selector_lem : ReadsSame (opt (the p.AfterSelector)) plain_after_selector
plain_after_selector_lem = same_trans (same_or (same_trans (same_call p.AfterSelector) after_selector_opened) (same_refl Nothing)) (same_trans after_selector_mended (same_sym (opt_many (opt plain_index • literal) (the p.Suffix))))

after_name_mended : ReadsSame ((dot plain_after_selector suffixes or index plain_after_index suffixes or (call or literal) • suffixes) or Nothing) (before_suffixes (opt plain_selector • opt plain_index • literal))
after_name_mended = λ bytes. same_alternatives Production production bytes suffix_opened 8 ((dot plain_after_selector suffixes or index plain_after_index suffixes or (call or literal) • suffixes) or Nothing) (before_suffixes (opt plain_selector • opt plain_index • literal)) (6 ∷ 7 ∷ 0 ∷ 1 ∷ 2 ∷ 8 ∷ 9 ∷ 10 ∷ 11 ∷ 3 ∷ 12 ∷ 4 ∷ 13 ∷ 14 ∷ 15 ∷ 16 ∷ 17 ∷ 5 ∷ 18 ∷ []) (2 ∷ 3 ∷ 4 ∷ 9 ∷ 11 ∷ 17 ∷ 0 ∷ 1 ∷ 5 ∷ 6 ∷ 7 ∷ 8 ∷ 10 ∷ 12 ∷ 13 ∷ 14 ∷ 15 ∷ 16 ∷ 18 ∷ []) refl refl

after_name_opened : ReadsSame (production p.AfterName) (dot plain_after_selector suffixes or index plain_after_index suffixes or (call or literal) • suffixes)
after_name_opened = same_or (dot_same suffixes plain_after_selector_lem) (same_or (index_same suffixes plain_after_index_lem) (same_refl ((call or literal) • suffixes)))

pub plain_after_name_lem : ReadsSame (opt (the p.AfterName)) plain_after_name
plain_after_name_lem = same_trans (same_or (same_trans (same_call p.AfterName) after_name_opened) (same_refl Nothing)) (same_trans after_name_mended (same_sym (opt_many (opt plain_selector • opt plain_index • literal) (the p.Suffix))))

call_or_dot_mended : ReadsSame (dot plain_after_selector suffixes or plain_call • suffixes) plain_call_or_dot
call_or_dot_mended = λ bytes. same_alternatives Production production bytes none_opened 8 (dot plain_after_selector suffixes or plain_call • suffixes) (plain_call_or_dot) (5 ∷ 4 ∷ 0 ∷ 1 ∷ 2 ∷ 3 ∷ 6 ∷ 7 ∷ 8 ∷ 9 ∷ 10 ∷ []) (2 ∷ 3 ∷ 4 ∷ 5 ∷ 1 ∷ 0 ∷ 6 ∷ 7 ∷ 8 ∷ 9 ∷ 10 ∷ []) refl refl

pub plain_call_or_dot_lem : ReadsSame (production p.CallOrDot) plain_call_or_dot
plain_call_or_dot_lem = same_trans (same_or (dot_same suffixes plain_after_selector_lem) (same_first plain_call_lem)) call_or_dot_mended

unary_mended : ReadsSame (the p.Name • plain_after_name or the p.Operand • suffixes or prefixed Plain) (plain_unary Plain)
unary_mended = λ bytes. same_alternatives Production production bytes none_opened 8 (the p.Name • plain_after_name or the p.Operand • suffixes or prefixed Plain) (plain_unary Plain) (0 ∷ 1 ∷ 2 ∷ 3 ∷ 4 ∷ 5 ∷ 6 ∷ 7 ∷ 8 ∷ 9 ∷ 10 ∷ 11 ∷ 12 ∷ 13 ∷ 14 ∷ []) (0 ∷ 1 ∷ 2 ∷ 3 ∷ 4 ∷ 5 ∷ 6 ∷ 7 ∷ 8 ∷ 9 ∷ 10 ∷ 11 ∷ 12 ∷ 13 ∷ 14 ∷ []) refl refl

pub plain_unary_lem : (w : Form) → ReadsSame (production (p.Unary w)) (plain_unary w)
plain_unary_lem Plain = same_trans (same_or (same_then plain_after_name_lem) (same_refl (the p.Operand • suffixes or prefixed Plain))) unary_mended
plain_unary_lem Header = λ bytes. same_alternatives Production production bytes none_opened 8 (production (p.Unary Header)) (plain_unary Header) (0 ∷ 1 ∷ 2 ∷ 3 ∷ 4 ∷ 5 ∷ 6 ∷ 7 ∷ 8 ∷ []) (0 ∷ 1 ∷ 2 ∷ 3 ∷ 4 ∷ 5 ∷ 6 ∷ 7 ∷ 8 ∷ []) refl refl
