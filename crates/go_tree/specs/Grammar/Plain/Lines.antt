-- The productions that are factored so that one token decides, and their plain lines: both read the same.
-- A choice that a note beside its production settles (`own`) is settled in the plain line too: it names the production that is
-- left, as `TypeNoBracket`, or spells out what may follow.
use Rattle.std.specs.Prelude.{ℕ, List, ◌∷◌, ◌↔◌}
use Rattle.go_tree.specs.declared.production.Form.{Form}
use Rattle.go_tree.specs.declared.production.Items.{Items}
use Rattle.go_tree.specs.declared.production.Clauses.{Clauses}
use Rattle.go_tree.specs.declared.production.Production.{Production}
use Rattle.go_tree.specs.declared.production.Production.TheVariants.{AfterIndex, AfterName, AfterSelector, BracketType, CallOrDot, Clause, Decl, Elem, Element, Field, For, If, Import, More, Param, Select, Simple, Stmt, Suffix, Switch, Top, TypeSpec, Unary}
use Rattle.go_tree.specs.Grammar.RightSide.{RightSide}
use Rattle.go_tree.specs.Grammar.Words.{the, opt, items}
use Rattle.go_tree.specs.Grammar.Expressions.{call}
use Rattle.go_tree.specs.Grammar.Plain.Lists.{plain_rest, plain_items}
use Rattle.go_tree.specs.Grammar.Plain.Declarations.{plain_import, plain_top, plain_decl, plain_type_spec}
use Rattle.go_tree.specs.Grammar.Plain.Types.{plain_bracket_type, plain_elem, plain_param, plain_field}
use Rattle.go_tree.specs.Grammar.Plain.Expressions.{plain_call, plain_suffix, plain_after_index, plain_after_selector, plain_after_name, plain_call_or_dot, plain_unary, plain_element}
use Rattle.go_tree.specs.Grammar.Plain.Statements.{plain_stmt, plain_simple, plain_if, plain_clauses, plain_switch, plain_select, plain_for}
use Rattle.go_tree.specs.Grammar.Trees.Reading.{State}
use Rattle.go_tree.specs.Grammar.Trees.Sentence.{production, ReadsGo}

-- both read the same, wherever they stand
abbrev pub ReadsSame : RightSide Production → RightSide Production → Type 0
ReadsSame g h = (bytes : List ℕ) (gs : List (RightSide Production)) (s e : State) → ReadsGo bytes (g ∷ gs) s e ↔ ReadsGo bytes (h ∷ gs) s e

-- each production that is factored reads what its plain line reads, and so do parts that several have: lists, the
-- arguments of a call, what follows a name, and the clauses of switch and select
pub record ReadPlainLines : Type 0 where
  pub list_rest : (l : Items) → ReadsSame (opt (the (More l))) (plain_rest l)
  pub lists : (l : Items) → ReadsSame (items l) (plain_items l)
  pub imports : ReadsSame (production Import) plain_import
  pub top : ReadsSame (production Top) plain_top
  pub decl : ReadsSame (production Decl) plain_decl
  pub type_spec : ReadsSame (production TypeSpec) plain_type_spec
  pub bracket_type : ReadsSame (production BracketType) plain_bracket_type
  pub elem : ReadsSame (production Elem) plain_elem
  pub param : ReadsSame (production Param) plain_param
  pub field_decl : ReadsSame (production Field) plain_field
  pub arguments : ReadsSame call plain_call
  pub suffix : ReadsSame (production Suffix) plain_suffix
  pub after_index : ReadsSame (opt (the AfterIndex)) plain_after_index
  pub after_selector : ReadsSame (opt (the AfterSelector)) plain_after_selector
  pub after_name : ReadsSame (opt (the AfterName)) plain_after_name
  pub call_or_dot : ReadsSame (production CallOrDot) plain_call_or_dot
  pub unary : (w : Form) → ReadsSame (production (Unary w)) (plain_unary w)
  pub element : ReadsSame (production Element) plain_element
  pub stmt : ReadsSame (production Stmt) plain_stmt
  pub simple : (w : Form) → ReadsSame (production (Simple w)) (plain_simple w)
  pub if_stmt : ReadsSame (production If) plain_if
  pub clauses : (c : Clauses) → ReadsSame (opt (the (Clause c))) (plain_clauses c)
  pub switch_stmt : ReadsSame (production Switch) plain_switch
  pub select_stmt : ReadsSame (production Select) plain_select
  pub for_stmt : ReadsSame (production For) plain_for
