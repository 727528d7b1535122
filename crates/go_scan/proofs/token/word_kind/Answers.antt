use Rattle.go_tree.specs.declared.token.TokenKind.TheVariants.{Ident}
use Rattle.go_scan.proofs.LongestLemmas.{word_is_longest, spelled_token, ident_token}
use Rattle.go_scan.proofs.token.word_kind.Goals as goal

pub returns-in-Some : goal.returns-in-Some
returns-in-Some c = word_is_longest c.args.bytes.now c.in-Some.kind c.args.from c.args.to c.requires.word c.requires.longest c.requires.within.1 (spelled_token c.args.bytes.now c.in-Some.kind c.args.from c.args.to c.in-Some.ensures.some)

pub returns-in-None : goal.returns-in-None
returns-in-None c = word_is_longest c.args.bytes.now Ident c.args.from c.args.to c.requires.word c.requires.longest c.requires.within.1 (ident_token c.args.bytes.now c.args.from c.args.to c.requires.word c.requires.within.1 c.in-None.ensures.none)
