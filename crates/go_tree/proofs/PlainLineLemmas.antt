-- The factored productions read what their plain lines read.
use Rattle.std.proofs.Common.{ℕ, Bool, true, false, [], ◌∷◌, refl, ◌==◌}
use Rattle.go_tree.specs.declared.production.Production.{Production}
use Rattle.go_tree.specs.declared.production.Production.TheVariants as p
use Rattle.go_tree.specs.Grammar.Trees.Sentence.{production}
use Rattle.go_tree.specs.Grammar.Plain.Declarations.{plain_import, plain_top, plain_decl}
use Rattle.go_tree.specs.Grammar.Plain.Types.{plain_bracket_type, plain_elem}
use Rattle.go_tree.specs.Grammar.Plain.Expressions.{plain_element}
use Rattle.go_tree.specs.Grammar.Plain.Statements.{plain_stmt, plain_simple, plain_if, plain_for}
use Rattle.go_tree.specs.Grammar.Plain.Lines.{ReadPlainLines}
use Rattle.go_tree.proofs.PlainLemmas.{same_alternatives}
use Rattle.go_tree.proofs.PlainListLemmas.{plain_rest_lem, plain_items_lem}
use Rattle.go_tree.proofs.PlainDeclarationLemmas.{plain_type_spec_lem}
use Rattle.go_tree.proofs.PlainTypeLemmas.{plain_param_lem, plain_field_lem}
use Rattle.go_tree.proofs.PlainExpressionLemmas.{plain_call_lem, plain_suffix_lem, plain_after_index_lem, plain_after_selector_lem, plain_after_name_lem, plain_call_or_dot_lem, plain_unary_lem}
use Rattle.go_tree.proofs.PlainStatementLemmas.{plain_clauses_lem, plain_switch_lem, plain_select_lem}

abbrev none_opened : ℕ → Production → Bool
none_opened k n = false

abbrev elem_opened : ℕ → Production → Bool
elem_opened k p.Union = true
elem_opened k p.Term = true
elem_opened k p.AnyType = true
elem_opened k p.TypeNoName = true
elem_opened k p.TypeName = true
elem_opened k _ = false

abbrev stmt_opened : ℕ → Production → Bool
stmt_opened k (p.Simple w) = k == 7
stmt_opened k (p.Expr w) = k == 6
stmt_opened k (p.Conjunction w) = k == 5
stmt_opened k (p.Comparison w) = k == 4
stmt_opened k (p.Sum w) = k == 3
stmt_opened k (p.Product w) = k == 2
stmt_opened k (p.Unary w) = k == 1
stmt_opened k p.ExprNoName = k == 7
stmt_opened k p.Tails = true
stmt_opened k _ = false

abbrev simple_opened : ℕ → Production → Bool
simple_opened k (p.AfterExpr w) = true
simple_opened k (p.SimpleTail w) = true
simple_opened k _ = false

abbrev if_stmt_opened : ℕ → Production → Bool
if_stmt_opened k (p.Simple w) = true
if_stmt_opened k _ = false

abbrev for_stmt_opened : ℕ → Production → Bool
for_stmt_opened k p.ForAfterExpr = true
for_stmt_opened k (p.Simple w) = true
for_stmt_opened k (p.AfterExpr w) = true
for_stmt_opened k (p.SimpleTail w) = true
for_stmt_opened k _ = false

pub plain_lines_lem : ReadPlainLines
plain_lines_lem = record {
  list_rest = plain_rest_lem;
  lists = plain_items_lem;
  imports = λ bytes. same_alternatives Production production bytes none_opened 8 (production p.Import) plain_import (0 ∷ 1 ∷ 2 ∷ 3 ∷ []) (0 ∷ 1 ∷ 2 ∷ 3 ∷ []) refl refl;
  top = λ bytes. same_alternatives Production production bytes none_opened 8 (production p.Top) plain_top (0 ∷ 1 ∷ 2 ∷ []) (0 ∷ 1 ∷ 2 ∷ []) refl refl;
  decl = λ bytes. same_alternatives Production production bytes none_opened 8 (production p.Decl) plain_decl (0 ∷ 1 ∷ 2 ∷ 3 ∷ 4 ∷ 5 ∷ 6 ∷ 7 ∷ 8 ∷ 9 ∷ 10 ∷ 11 ∷ []) (0 ∷ 1 ∷ 2 ∷ 3 ∷ 4 ∷ 5 ∷ 6 ∷ 7 ∷ 8 ∷ 9 ∷ 10 ∷ 11 ∷ []) refl refl;
  type_spec = plain_type_spec_lem;
  bracket_type = λ bytes. same_alternatives Production production bytes none_opened 8 (production p.BracketType) plain_bracket_type (1 ∷ 2 ∷ 0 ∷ []) (2 ∷ 0 ∷ 1 ∷ []) refl refl;
  elem = λ bytes. same_alternatives Production production bytes elem_opened 8 (production p.Elem) plain_elem (0 ∷ 1 ∷ 2 ∷ 3 ∷ 4 ∷ 5 ∷ 6 ∷ 7 ∷ 8 ∷ 9 ∷ 10 ∷ 11 ∷ 12 ∷ 13 ∷ 14 ∷ 15 ∷ 16 ∷ 17 ∷ 18 ∷ 19 ∷ 20 ∷ []) (0 ∷ 1 ∷ 2 ∷ 3 ∷ 4 ∷ 5 ∷ 6 ∷ 7 ∷ 8 ∷ 9 ∷ 10 ∷ 11 ∷ 12 ∷ 13 ∷ 14 ∷ 15 ∷ 16 ∷ 17 ∷ 18 ∷ 19 ∷ 20 ∷ []) refl refl;
  param = plain_param_lem;
  field_decl = plain_field_lem;
  arguments = plain_call_lem;
  suffix = plain_suffix_lem;
  after_index = plain_after_index_lem;
  after_selector = plain_after_selector_lem;
  after_name = plain_after_name_lem;
  call_or_dot = plain_call_or_dot_lem;
  unary = plain_unary_lem;
  element = λ bytes. same_alternatives Production production bytes none_opened 8 (production p.Element) plain_element (0 ∷ 1 ∷ []) (0 ∷ 1 ∷ []) refl refl;
  stmt = λ bytes. same_alternatives Production production bytes stmt_opened 8 (production p.Stmt) plain_stmt (0 ∷ 1 ∷ 2 ∷ 3 ∷ 4 ∷ 5 ∷ 6 ∷ 7 ∷ 8 ∷ 9 ∷ 10 ∷ 11 ∷ 12 ∷ 13 ∷ 27 ∷ 14 ∷ 15 ∷ 16 ∷ 17 ∷ 18 ∷ 19 ∷ 20 ∷ 21 ∷ 22 ∷ 23 ∷ 24 ∷ 25 ∷ 26 ∷ []) (0 ∷ 1 ∷ 2 ∷ 3 ∷ 4 ∷ 5 ∷ 6 ∷ 7 ∷ 8 ∷ 9 ∷ 10 ∷ 11 ∷ 12 ∷ 13 ∷ 15 ∷ 16 ∷ 17 ∷ 18 ∷ 19 ∷ 20 ∷ 21 ∷ 22 ∷ 23 ∷ 24 ∷ 25 ∷ 26 ∷ 27 ∷ 14 ∷ []) refl refl;
  simple = λ w bytes. same_alternatives Production production bytes simple_opened 8 (production (p.Simple w)) (plain_simple w) (1 ∷ 2 ∷ 3 ∷ 5 ∷ 6 ∷ 7 ∷ 8 ∷ 9 ∷ 10 ∷ 11 ∷ 12 ∷ 13 ∷ 14 ∷ 15 ∷ 4 ∷ 16 ∷ 0 ∷ []) (16 ∷ 0 ∷ 1 ∷ 2 ∷ 14 ∷ 3 ∷ 4 ∷ 5 ∷ 6 ∷ 7 ∷ 8 ∷ 9 ∷ 10 ∷ 11 ∷ 12 ∷ 13 ∷ 15 ∷ []) refl refl;
  if_stmt = λ bytes. same_alternatives Production production bytes if_stmt_opened 8 (production p.If) plain_if (0 ∷ 1 ∷ 2 ∷ 3 ∷ 4 ∷ 5 ∷ 6 ∷ 7 ∷ 8 ∷ 9 ∷ 10 ∷ 11 ∷ 12 ∷ 13 ∷ 14 ∷ []) (0 ∷ 1 ∷ 2 ∷ 3 ∷ 4 ∷ 5 ∷ 6 ∷ 7 ∷ 8 ∷ 9 ∷ 10 ∷ 11 ∷ 12 ∷ 13 ∷ 14 ∷ []) refl refl;
  clauses = plain_clauses_lem;
  switch_stmt = plain_switch_lem;
  select_stmt = plain_select_lem;
  for_stmt = λ bytes. same_alternatives Production production bytes for_stmt_opened 8 (production p.For) plain_for (1 ∷ 2 ∷ 3 ∷ 38 ∷ 0 ∷ 36 ∷ 37 ∷ 4 ∷ 5 ∷ 6 ∷ 7 ∷ 8 ∷ 9 ∷ 10 ∷ 11 ∷ 12 ∷ 13 ∷ 14 ∷ 15 ∷ 16 ∷ 17 ∷ 18 ∷ 19 ∷ 20 ∷ 21 ∷ 22 ∷ 23 ∷ 24 ∷ 25 ∷ 26 ∷ 27 ∷ 28 ∷ 29 ∷ 30 ∷ 31 ∷ 39 ∷ 32 ∷ 33 ∷ 40 ∷ 34 ∷ 35 ∷ []) (4 ∷ 0 ∷ 1 ∷ 2 ∷ 7 ∷ 8 ∷ 9 ∷ 10 ∷ 11 ∷ 12 ∷ 13 ∷ 14 ∷ 15 ∷ 16 ∷ 17 ∷ 18 ∷ 19 ∷ 20 ∷ 21 ∷ 22 ∷ 23 ∷ 24 ∷ 25 ∷ 26 ∷ 27 ∷ 28 ∷ 29 ∷ 30 ∷ 31 ∷ 32 ∷ 33 ∷ 34 ∷ 36 ∷ 37 ∷ 39 ∷ 40 ∷ 5 ∷ 6 ∷ 3 ∷ 35 ∷ 38 ∷ []) refl refl;
}
