use Rattle.std.proofs.Common.{◌≡◌, Some, sym, ◌∙◌}
use Rattle.go_tree.specs.declared.token.TokenKind.TheVariants.{RightBrace, Ident}
use Rattle.go_tree.specs.Height.{counted}
use Rattle.go_tree.proofs.GrammarBlocks.{block_counts}
use Rattle.go_parse_x.proofs.heights.Heights.block.Goals as goal

pub returns : goal.returns
returns c = λ bytes ts bs d h.
    let b = block_counts bytes ts bs d in
    record {
      levels = rw b.0 (c.braces.ensures (counted ts).marks h.levels);
      last = sym b.1;
      before = λ q. let brace : Some RightBrace ≡ Some Ident = sym b.1 ∙ q in cc;
    }
