-- What the machine reads of a text is what is read of a file.
use Rattle.std.proofs.Common.{◌≡◌, ◌≢◌, ℕ, List, [], ◌∷◌, ◌++◌, Option, None, Some, refl, subst, sym}
use Rattle.go_tree.specs.declared.node.Node.{Node}
use Rattle.go_tree.specs.declared.token.Token.{Token}
use Rattle.go_tree.specs.declared.token.TokenKind.{TokenKind}
use Rattle.go_tree.specs.declared.token.TokenKind.TheVariants.{End}
use Rattle.go_tree.specs.declared.production.Production.TheVariants.{File}
use Rattle.go_tree.specs.Lexical.Scan.{ScanFrom, IsNext, Stand}
use Rattle.go_text.specs.declared.fault.ParseFault.{ParseFault}
use Rattle.go_text.specs.declared.fault.ParseFault.TheVariants.{Lexical, Syntax, High, NoMemory}
use Rattle.go_text.specs.Faults.{Spot, IsFaultOf, IsWrong}
use Rattle.go_parse_x.specs.Files.{IsText, IsFault, Faults}
use Rattle.go_tree.specs.Tree.{Tree}
use Rattle.go_parse_x.specs.Tables.Opened.{tree_without}
use Rattle.go_tree.specs.Height.{AllFit}
use Rattle.go_text.specs.Copies.{with_copies}
use Rattle.go_text.specs.Numbers.{numbered}
use Rattle.go_text.specs.Files.{most_height, IsFileOf}

abbrev pub start : Spot
start = record { at = 0; last = None }

two_or_more : (bytes : List ℕ) (at : ℕ) (last : Option TokenKind) (t u : Token) (ts : List Token) → IsNext bytes at last t → t.kind ≢ End → ScanFrom bytes t.end (Some t.kind) (ts ++ u ∷ []) → ScanFrom bytes at last (t ∷ (ts ++ u ∷ []))
two_or_more bytes at last t u [] next more d = (next, more, d)
two_or_more bytes at last t u (v ∷ ts) next more d = (next, more, d)

-- tokens behind one another, and the end behind them
scanned : (bytes : List ℕ) (at to : ℕ) (last kind : Option TokenKind) (ts : List Token) (u : Token) → Stand bytes at last ts to kind → IsNext bytes to kind u → u.kind ≡ End → ScanFrom bytes at last (ts ++ u ∷ [])
scanned bytes at to last kind [] u h next end =
    let P : ℕ → Type 0 = λ n. IsNext bytes n last u in
    let Q : Option TokenKind → Type 0 = λ k. IsNext bytes to k u in
    (subst P (sym h.0) (subst Q (sym h.1) next), end)
scanned bytes at to last kind (t ∷ ts) u h next end = two_or_more bytes at last t u ts h.0 h.1 (scanned bytes t.end to (Some t.kind) kind ts u h.2 next end)

pub file_of : (bytes : List ℕ) (to : Spot) (low number first : ℕ) (node : Node) (tree : Tree) → IsText bytes File most_height start to low number node → tree ≡ numbered first (with_copies (tree_without node)) → IsFileOf bytes first tree
file_of bytes to low number first node tree t q = record {
  tokens = t.tokens ++ t.last ∷ [];
  scan = scanned bytes 0 to.at None to.last t.tokens t.last t.stand t.next t.end;
  written = tree_without node;
  derives = t.tree;
  fit = t.fit;
  tree_is = q;
}

wrong_of : (bytes : List ℕ) (tokens : List Token) (to : Spot) (fault : ParseFault) → Faults bytes File most_height tokens to fault → IsWrong bytes tokens to fault
wrong_of bytes tokens to (Lexical e) h = h
wrong_of bytes tokens to (Syntax k) h = record { token = h.0; next = h.1.next; place = h.2; never = h.1.never }
wrong_of bytes tokens to (High k) h = record { token = h.token; next = h.next; place = h.place; begins = h.begins; past = h.past }
wrong_of bytes tokens to NoMemory h = tt

pub fault_of : (bytes : List ℕ) (to : Spot) (fault : ParseFault) → IsFault bytes File most_height start to fault → IsFaultOf bytes fault
fault_of bytes to fault f = record {
  tokens = f.tokens;
  to = to;
  reaches = record { stand = f.reached.stand; begins = f.reached.begins; fit = f.reached.fit };
  wrong = wrong_of bytes f.tokens to fault f.faults;
}

-- the same, where the machine began at the start of the text
pub file_from : (bytes text : List ℕ) (free : ℕ) (from to : Spot) (low number first : ℕ) (node : Node) (tree : Tree) → bytes ≡ text → free ≡ most_height → from ≡ start → IsText bytes File free from to low number node → tree ≡ numbered first (with_copies (tree_without node)) → IsFileOf text first tree
file_from bytes text free from to low number first node tree qb qf qs t q =
    let B : List ℕ → Type 0 = λ x. IsText x File free from to low number node in
    let F : ℕ → Type 0 = λ x. IsText text File x from to low number node in
    let S : Spot → Type 0 = λ x. IsText text File most_height x to low number node in
    file_of text to low number first node tree (subst S qs (subst F qf (subst B qb t))) q

pub fault_from : (bytes text : List ℕ) (free : ℕ) (from to : Spot) (fault : ParseFault) → bytes ≡ text → free ≡ most_height → from ≡ start → IsFault bytes File free from to fault → IsFaultOf text fault
fault_from bytes text free from to fault qb qf qs f =
    let B : List ℕ → Type 0 = λ x. IsFault x File free from to fault in
    let F : ℕ → Type 0 = λ x. IsFault text File x from to fault in
    let S : Spot → Type 0 = λ x. IsFault text File most_height x to fault in
    fault_of text to fault (subst S qs (subst F qf (subst B qb f)))

-- want of memory may come behind the whole text too
pub no_memory_of : (bytes : List ℕ) (to : Spot) (low number : ℕ) (node : Node) → IsText bytes File most_height start to low number node → IsFaultOf bytes NoMemory
no_memory_of bytes to low number node t = record {
  tokens = [];
  to = start;
  reaches = record { stand = (refl, refl); begins = (t.tokens ++ t.last ∷ [], tree_without node, t.tree); fit = none };
  wrong = tt;
}
  where
    none : AllFit most_height []
    none [] rest e = t.fit [] (t.tokens ++ t.last ∷ []) refl
    none (x ∷ front) rest e = cc

pub no_memory_from : (bytes text : List ℕ) (free : ℕ) (from to : Spot) (low number : ℕ) (node : Node) → bytes ≡ text → free ≡ most_height → from ≡ start → IsText bytes File free from to low number node → IsFaultOf text NoMemory
no_memory_from bytes text free from to low number node qb qf qs t =
    let B : List ℕ → Type 0 = λ x. IsText x File free from to low number node in
    let F : ℕ → Type 0 = λ x. IsText text File x from to low number node in
    let S : Spot → Type 0 = λ x. IsText text File most_height x to low number node in
    no_memory_of text to low number node (subst S qs (subst F qf (subst B qb t)))
