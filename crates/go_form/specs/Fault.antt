-- Source code representation; Tokens (Go specification), and the syntax of each construct.
-- Decides which rule a file without a tree breaks, and where: the rule of the byte with which no token
-- starts, S3, or L6 at the first token whose height passes the greatest.
use Rattle.std.specs.Prelude.{ℕ, Option, Some, None}
use Rattle.go_base.specs.declared.rule.Broken.{Broken}
use Rattle.go_base.specs.declared.rule.Rule.{Rule}
use Rattle.go_base.specs.declared.rule.Family.TheVariants.{S, L}
use Rattle.go_text.specs.declared.fault.ParseFault.{ParseFault}
use Rattle.go_text.specs.declared.fault.ParseFault.TheVariants.{Lexical, Syntax, High, NoMemory}
use Rattle.go_module.specs.Broken.{broken_at}

abbrev pub unexpected_token : Rule
unexpected_token = record { family = S; number = 3 }

abbrev pub great_height : Rule
great_height = record { family = L; number = 6 }

-- want of memory breaks none
abbrev pub broken_by : ℕ → ParseFault → Option Broken
broken_by file (Lexical lex) = Some (broken_at file lex.offset lex.rule)
broken_by file (Syntax offset) = Some (broken_at file offset unexpected_token)
broken_by file (High offset) = Some (broken_at file offset great_height)
broken_by file NoMemory = None
