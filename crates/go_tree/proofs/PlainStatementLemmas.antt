-- The plain lines of statements: the clauses of switch and select.
use Rattle.std.proofs.Common.{ℕ, Bool, true, false, [], ◌∷◌, refl}
use Rattle.go_tree.specs.declared.token.TokenKind.TheVariants.{KwCase, KwDefault, KwSwitch, LeftBrace, RightBrace, Semicolon, Colon, InsertedSemicolon}
use Rattle.go_tree.specs.declared.node_kind.NodeKind.TheVariants as k
use Rattle.go_tree.specs.declared.production.Form.TheVariants.{Header}
use Rattle.go_tree.specs.declared.production.Clauses.{Clauses}
use Rattle.go_tree.specs.declared.production.Clauses.TheVariants.{Cases, Comms}
use Rattle.go_tree.specs.declared.production.Production.{Production}
use Rattle.go_tree.specs.declared.production.Production.TheVariants as p
use Rattle.go_tree.specs.Grammar.RightSide.{RightSide, Nothing}
use Rattle.go_tree.specs.Grammar.Words.{◌•◌, ◌or◌, tok, the, opt, open_node, close, node, semi}
use Rattle.go_tree.specs.Grammar.Statements.{case_of, clause_kind, init_end}
use Rattle.go_tree.specs.Grammar.Trees.Sentence.{production}
use Rattle.go_tree.specs.Grammar.Plain.Statements.{ended_statements, clause, plain_clauses, plain_switch, plain_select}
use Rattle.go_tree.specs.Grammar.Plain.Lines.{ReadsSame}
use Rattle.go_tree.proofs.PlainLemmas.{same_alternatives}
use Rattle.go_tree.proofs.SameReadingLemmas.{PassesToken, same_refl, same_trans, same_call, same_first, same_then, same_or, token_passes, first_passes, second_passes, both_pass, repeats}

abbrev none_opened : ℕ → Production → Bool
none_opened k n = false

abbrev body_opened : ℕ → Production → Bool
body_opened k (p.AfterClauseStmt c) = true
body_opened k _ = false

abbrev header_opened : ℕ → Production → Bool
header_opened k (p.Simple w) = true
header_opened k _ = false

abbrev ended_statement : RightSide Production
ended_statement = opt (the p.Stmt) • semi

abbrev clause_end : Clauses → RightSide Production
clause_end c = the p.Stmt • close (clause_kind c) or close (clause_kind c) • opt (the (p.Clause c))

abbrev clause_head : Clauses → RightSide Production
clause_head c = tok KwCase • case_of c or node k.Default (tok KwDefault)

statement_passes : PassesToken Production production ended_statement
statement_passes = second_passes (opt (the p.Stmt)) semi (both_pass (tok Semicolon) (tok InsertedSemicolon) (token_passes Semicolon) (token_passes InsertedSemicolon))

body_once : (c : Clauses) → ReadsSame (production (p.ClauseBody c)) (ended_statement • the (p.ClauseBody c) or clause_end c)
body_once Cases = λ bytes. same_alternatives Production production bytes body_opened 8 (production (p.ClauseBody Cases)) (ended_statement • the (p.ClauseBody Cases) or clause_end Cases) (2 ∷ 3 ∷ 0 ∷ 1 ∷ 4 ∷ 5 ∷ 6 ∷ []) (2 ∷ 3 ∷ 0 ∷ 1 ∷ 4 ∷ 5 ∷ 6 ∷ []) refl refl
body_once Comms = λ bytes. same_alternatives Production production bytes body_opened 8 (production (p.ClauseBody Comms)) (ended_statement • the (p.ClauseBody Comms) or clause_end Comms) (2 ∷ 3 ∷ 0 ∷ 1 ∷ 4 ∷ 5 ∷ 6 ∷ []) (2 ∷ 3 ∷ 0 ∷ 1 ∷ 4 ∷ 5 ∷ 6 ∷ []) refl refl

clause_body : (c : Clauses) → ReadsSame (the (p.ClauseBody c)) (ended_statements • clause_end c)
clause_body c = repeats (the (p.ClauseBody c)) ended_statement (clause_end c) (same_trans (same_call (p.ClauseBody c)) (body_once c)) statement_passes

clause_opened : (c : Clauses) → ReadsSame (the (p.Clause c)) (open_node • clause_head c • tok Colon • ended_statements • clause_end c)
clause_opened c = same_trans (same_call (p.Clause c)) (same_then (same_then (same_then (clause_body c))))

clauses_once : (c : Clauses) → ReadsSame ((open_node • clause_head c • tok Colon • ended_statements • clause_end c) or Nothing) (clause c ended_statements • opt (the (p.Clause c)) or opt (clause c (ended_statements • the p.Stmt)))
clauses_once Cases = λ bytes. same_alternatives Production production bytes none_opened 8 ((open_node • clause_head Cases • tok Colon • ended_statements • clause_end Cases) or Nothing) (clause Cases ended_statements • opt (the (p.Clause Cases)) or opt (clause Cases (ended_statements • the p.Stmt))) (4 ∷ 0 ∷ 1 ∷ 5 ∷ 2 ∷ 3 ∷ 6 ∷ []) (1 ∷ 2 ∷ 4 ∷ 5 ∷ 0 ∷ 3 ∷ 6 ∷ []) refl refl
clauses_once Comms = λ bytes. same_alternatives Production production bytes none_opened 8 ((open_node • clause_head Comms • tok Colon • ended_statements • clause_end Comms) or Nothing) (clause Comms ended_statements • opt (the (p.Clause Comms)) or opt (clause Comms (ended_statements • the p.Stmt))) (4 ∷ 0 ∷ 1 ∷ 5 ∷ 2 ∷ 3 ∷ 6 ∷ []) (1 ∷ 2 ∷ 4 ∷ 5 ∷ 0 ∷ 3 ∷ 6 ∷ []) refl refl

clause_passes : (c : Clauses) → PassesToken Production production (clause c ended_statements)
clause_passes c =
    second_passes open_node ((clause_head c • tok Colon • ended_statements) • close (clause_kind c)) (
    first_passes (clause_head c • tok Colon • ended_statements) (close (clause_kind c)) (
    second_passes (clause_head c) (tok Colon • ended_statements) (first_passes (tok Colon) ended_statements (token_passes Colon))
    )
    )

pub plain_clauses_lem : (c : Clauses) → ReadsSame (opt (the (p.Clause c))) (plain_clauses c)
plain_clauses_lem c = repeats (opt (the (p.Clause c))) (clause c ended_statements) (opt (clause c (ended_statements • the p.Stmt))) (same_trans (same_or (clause_opened c) (same_refl Nothing)) (clauses_once c)) (clause_passes c)

abbrev switch_header : RightSide Production
switch_header = node k.Init semi • opt (the (p.Simple Header)) or the (p.Simple Header) • opt (init_end • opt (the (p.Simple Header)))

switch_mended : ReadsSame (node k.SwitchStmt (tok KwSwitch • opt switch_header • tok LeftBrace • plain_clauses Cases • tok RightBrace)) plain_switch
switch_mended = λ bytes. same_alternatives Production production bytes header_opened 8 (node k.SwitchStmt (tok KwSwitch • opt switch_header • tok LeftBrace • plain_clauses Cases • tok RightBrace)) (plain_switch) (0 ∷ 1 ∷ 2 ∷ 3 ∷ 4 ∷ 5 ∷ 6 ∷ 7 ∷ 8 ∷ 9 ∷ 10 ∷ 11 ∷ 12 ∷ 13 ∷ 14 ∷ 15 ∷ 16 ∷ 17 ∷ 18 ∷ 19 ∷ 20 ∷ 21 ∷ 22 ∷ 23 ∷ 24 ∷ 25 ∷ 26 ∷ 27 ∷ 28 ∷ 29 ∷ []) (0 ∷ 1 ∷ 2 ∷ 3 ∷ 4 ∷ 5 ∷ 6 ∷ 7 ∷ 8 ∷ 9 ∷ 10 ∷ 11 ∷ 12 ∷ 13 ∷ 14 ∷ 15 ∷ 16 ∷ 17 ∷ 18 ∷ 19 ∷ 20 ∷ 21 ∷ 22 ∷ 23 ∷ 24 ∷ 25 ∷ 26 ∷ 27 ∷ 28 ∷ 29 ∷ []) refl refl

pub plain_switch_lem : ReadsSame (production p.Switch) plain_switch
plain_switch_lem = same_trans (same_then (same_first (same_then (same_then (same_then (same_first (plain_clauses_lem Cases))))))) switch_mended

pub plain_select_lem : ReadsSame (production p.Select) plain_select
plain_select_lem = same_then (same_first (same_then (same_then (same_first (plain_clauses_lem Comms)))))
