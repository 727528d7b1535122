-- The answers of the reader of whole files, from what its calls do.
use Rattle.std.proofs.Common.{◌≡◌, ◌≢◌, ℕ, false, List, [], ◌∷◌, ◌++◌, Option, None, Some, Result, Ok, Err, IfOk, IfErr, OnOk, is_err, refl, subst, sym, ap, ◌∙◌, ◌⊎◌, ⊎_elim}
use Rattle.std.proofs.lemmas.List.{append-nil}
use Rattle.go_tree.specs.declared.node.Node.{Node}
use Rattle.go_tree.specs.declared.token.Token.{Token}
use Rattle.go_tree.specs.declared.token.TokenKind.{TokenKind}
use Rattle.go_tree.specs.declared.token.TokenKind.TheVariants.{End}
use Rattle.go_tree.specs.declared.production.Production.{Production}
use Rattle.go_tree.specs.declared.production.Production.TheVariants as p
use Rattle.go_tree.specs.Lexical.Scan.{IsNext, Stand}
use Rattle.go_tree.specs.Tree.{tree_of}
use Rattle.go_tree.specs.Grammar.RightSide.{RightSide, Call}
use Rattle.go_tree.specs.Grammar.Trees.Reading.{State, OpenNode, before, tree_read}
use Rattle.go_tree.specs.Grammar.Tables.Prediction.{AllDecided}
use Rattle.go_tree.specs.Grammar.Trees.Sentence.{production, tables, ReadsGo, IsA, Derives, Begins}
use Rattle.go_tree.proofs.PredictionLemmas.{unique}
use Rattle.go_tree.proofs.GrammarLemmas.{tables_right}
use Rattle.go_tree.proofs.GrammarBalance.{tree_lem}
use Rattle.go_tree.specs.declared.lex.Lex.{Lex}
use Rattle.go_text.specs.declared.fault.ParseFault.{ParseFault}
use Rattle.go_text.specs.declared.fault.ParseFault.TheVariants.{Lexical, Syntax, High, NoMemory}
use Rattle.go_parse_x.specs.declared.pending.Pending.{Pending}
use Rattle.go_parse_x.specs.declared.seen.Seen.{Seen}
use Rattle.go_text.specs.Faults.{Spot}
use Rattle.go_parse_x.specs.Answers.{EndsAt, Says, IsAnswer}
use Rattle.go_parse_x.specs.Files.{Reached, Faults, IsFault, IsText, EndsText, IsTextAnswer, IsUnfinished, IsFinishedBy}
use Rattle.go_parse_x.specs.Tables.Opened.{tree_without, numbers_in, Rises}
use Rattle.go_tree.specs.Height.{AllFit}
use Rattle.go_parse_x.specs.Pieces.{HasRead, View, IsOpen}
use Rattle.go_parse_x.specs.Machine.Steps.{Fits, IsTooHigh, behind}
use Rattle.go_tree.specs.Lexical.Faults.{IsLex}
use Rattle.go_parse_x.specs.Machine.Turns.{at, is_asked, IsPassed, IsStuck, IsAssumed, GoesOn}
use Rattle.go_tree.proofs.StandLemmas.{stand_append}
use Rattle.go_parse_x.proofs.FileEndLemmas.{file_ends, no_file}
use Rattle.go_parse_x.proofs.PieceLemmas.{IsPiece, fits_on, goes_begin, stuck_never, passed_read, end_whole}

-- what holds of an Ok, where it is one
pub ok_fact : {A E : Type 0} {P : Type 0} → (r : Result A E) → OnOk r P → false ≡ is_err r → P
ok_fact (Ok a) p q = p
ok_fact (Err e) p q = cc

-- one end has no node, so none has
pub unfinished : (bytes : List ℕ) (last : ℕ) (gs : List (RightSide Production)) (fs es : List OpenNode) → AllDecided tables gs → ReadsGo bytes gs (at last [] fs) (at last [] es) → tree_read es ≡ None → IsUnfinished bytes last gs fs
unfinished bytes last gs fs es ok d q e z r =
    let w = unique Production production bytes tables tables_right d ok r refl z in
    let P : State → Type 0 = λ x. tree_read x.open_nodes ≡ None in
    subst P w q

-- ---- the end of the file

nothing_assumed : (bytes : List ℕ) (seen : Seen) (then : Option TokenKind) (gs : List (RightSide Production)) (fs : List OpenNode) → seen.token.kind ≡ End → IsAssumed bytes seen then gs fs → then ≡ None
nothing_assumed bytes seen None gs fs q h = refl
nothing_assumed bytes seen (Some k) gs fs q h = absurd (let z = ap is_asked q in let w = h.1.asked in cc)

module _ (bytes : List ℕ) (v : View) (is : IsPiece v.n) (file : v.n ≡ p.File) (tokens : List Token) (low number : ℕ) (s : Spot) (o : IsOpen bytes v tokens low number s.at s.last) (seen : Seen) (q : v.last ≡ seen.last) (next : IsNext bytes s.at s.last seen.token) where
  read_so : HasRead bytes v.n tokens o.assumed v.rest seen.last v.nodes
  read_so = let P : ℕ → Type 0 = λ l. HasRead bytes v.n tokens o.assumed v.rest l v.nodes in subst P q o.reads

  pub text_never : IsStuck bytes seen None v.rest v.nodes → Begins bytes v.n (tokens ++ seen.token ∷ []) → ⊥
  text_never x = stuck_never bytes v.n is tokens o.assumed seen v.rest v.nodes read_so (o.next seen.token next) x

  text_begins : GoesOn bytes seen v.rest v.nodes → Begins bytes v.n (tokens ++ seen.token ∷ [])
  text_begins g = goes_begin bytes v.n is tokens o.assumed seen v.rest v.nodes read_so (o.next seen.token next) g

  -- the token is stuck
  pub stuck_text : IsStuck bytes seen None v.rest v.nodes → Faults bytes p.File v.free tokens s (Syntax seen.token.start)
  stuck_text x =
      let P : Production → Type 0 = λ n. EndsAt bytes n tokens s seen.token in
      (seen.token, subst P file (record { next = next; never = text_never x }), refl)

  high_text : GoesOn bytes seen v.rest v.nodes → (fault : ParseFault) → IsTooHigh v.free seen.token v.heights fault → Faults bytes p.File v.free tokens s fault
  high_text g (Lexical e) h = absurd h
  high_text g (Syntax k) h = absurd h
  high_text g (High k) h =
      let P : Production → Type 0 = λ n. Begins bytes n (tokens ++ seen.token ∷ []) in
      record { token = seen.token; next = next; begins = subst P file (text_begins g); past = h.1 tokens o.counts; place = h.0 }
  high_text g NoMemory h = tt

  behind_end : (then : Option TokenKind) (hs : List (RightSide Production)) (es : List OpenNode) → seen.token.kind ≡ End → IsPassed bytes seen then v.rest hs v.nodes es → IsAssumed bytes seen then v.rest v.nodes → HasRead bytes v.n (tokens ++ seen.token ∷ []) None hs seen.token.end es
  behind_end then hs es end x a =
      let P : Option TokenKind → Type 0 = λ k. HasRead bytes v.n (tokens ++ seen.token ∷ []) k hs seen.token.end es in
      subst P (nothing_assumed bytes seen then v.rest v.nodes end a) (passed_read bytes v.n is tokens o.assumed seen v.rest v.nodes read_so (o.next seen.token next) then hs es x)

  -- behind the end of a file there is a node
  not_unfinished : (hs : List (RightSide Production)) (es : List OpenNode) → seen.token.kind ≡ End → HasRead bytes v.n (tokens ++ seen.token ∷ []) None hs seen.token.end es → GoesOn bytes seen v.rest v.nodes → IsUnfinished bytes seen.token.end hs es → ⊥
  not_unfinished hs es end h g u =
      let B : Production → Type 0 = λ n. Begins bytes n (tokens ++ seen.token ∷ []) in
      let A : Production → Type 0 = λ n. IsA bytes n (tokens ++ seen.token ∷ []) in
      let whole = subst A (sym file) (file_ends bytes tokens seen.token end (subst B file (text_begins g))) in
      let z = tree_lem bytes v.n (tokens ++ seen.token ∷ []) is.whole whole in
      let d = h.there [] z.1.whole.end tt z.1.whole.all (subst (λ w. ReadsGo bytes (Call v.n ∷ []) (before w) z.1.whole.end) (sym (append-nil (tokens ++ seen.token ∷ []))) z.1.whole.reads) in
      let none = u z.1.whole.end z.1.whole.all d in
      let some = z.1.tree in
      absurd (let w = sym none ∙ some in cc)

  pub end_text : (then : Option TokenKind) (hs : List (RightSide Production)) (es : List OpenNode) → seen.token.kind ≡ End → IsPassed bytes seen then v.rest hs v.nodes es → IsAssumed bytes seen then v.rest v.nodes → GoesOn bytes seen v.rest v.nodes → (numbers : List ℕ) (middle after : ℕ) → Rises low numbers middle → (result : Result Node ParseFault) → IfErr result (λ fault. IsTooHigh v.free seen.token v.heights fault ⊎ IsUnfinished bytes seen.token.end hs es) → OnOk result (Fits v.free seen.token v.heights) → IfOk result (λ node. IsFinishedBy bytes seen.token.end hs es (tree_without node)) → IfOk result (λ node. (low : ℕ) → Rises low numbers middle → Rises low (numbers_in (tree_of node)) after) → EndsText bytes v.free tokens seen.token s low after result
  end_text then hs es end x a g numbers middle after rises (Ok node) high fits tree risen =
      let h = behind_end then hs es end x a in
      let P : Production → Type 0 = λ n. Derives bytes n (tokens ++ seen.token ∷ []) (tree_without node) in (
        subst P file (end_whole bytes v.n (tokens ++ seen.token ∷ []) hs seen.token.end es tree.0 h tree.1 (tree_without node) tree.2),
        fits_on v.free tokens seen.token o.fit (fits tokens o.counts),
        risen low rises,
      )
  end_text then hs es end x a g numbers middle after rises (Err fault) high fits tree risen =
      ⊎_elim (λ h. high_text g fault h) (λ u. absurd (not_unfinished hs es end (behind_end then hs es end x a) g u)) high

-- ---- tokens that were passed before

reached_so : (bytes text : List ℕ) (v : View) (most : ℕ) (tokens : List Token) (low number : ℕ) (from s : Spot) → bytes ≡ text → v.n ≡ p.File → v.free ≡ most → Stand text from.at from.last tokens s.at s.last → IsOpen bytes v tokens low number s.at s.last → Reached text p.File most from s tokens
reached_so bytes text v most tokens low number from s q file free stand o =
    let P : Production → Type 0 = λ n. Begins bytes n tokens in
    let Q : List ℕ → Type 0 = λ b. Begins b p.File tokens in
    let F : ℕ → Type 0 = λ f. AllFit f tokens in
    record { stand = stand; begins = subst Q q (subst P file o.begins); fit = subst F free o.fit }

module _ (bytes text : List ℕ) (v : View) (is : IsPiece v.n) (most : ℕ) (tokens : List Token) (low number : ℕ) (from s : Spot) (q : bytes ≡ text) (file : v.n ≡ p.File) (free : v.free ≡ most) (stand : Stand text from.at from.last tokens s.at s.last) (o : IsOpen bytes v tokens low number s.at s.last) where
  pub reached_here : Reached text p.File most from s tokens
  reached_here = reached_so bytes text v most tokens low number from s q file free stand o

  pub lexical_here : (e : Lex) → IsLex bytes s.at s.last e → IsFault text p.File most from s (Lexical e)
  lexical_here e lex = let P : List ℕ → Type 0 = λ b. IsLex b s.at s.last e in record { tokens = tokens; reached = reached_here; faults = subst P q lex }

  pub memory_here : IsFault text p.File most from s NoMemory
  memory_here = record { tokens = tokens; reached = reached_here; faults = tt }

-- tokens before the end of the file are no file
pub no_file_yet : {P : Type 0} (bytes text : List ℕ) (n : Production) (tokens : List Token) (from to : Spot) → bytes ≡ text → n ≡ p.File → Stand text from.at from.last tokens to.at to.last → P → IsA bytes n tokens → ⊥
no_file_yet bytes text n tokens from to qb qn stand none a =
    let B : List ℕ → Type 0 = λ x. IsA x n tokens in
    let N : Production → Type 0 = λ x. IsA text x tokens in
    no_file text from.at to.at from.last to.last tokens stand (subst N qn (subst B qb a))

says_so : (bytes : List ℕ) (free : ℕ) (all : List Token) (to : Spot) (low after : ℕ) (pending : Pending) (fault : ParseFault) → Says bytes p.File free all to low after pending (Err fault) → Faults bytes p.File free all to fault
says_so bytes free all to low after pending (Lexical e) h = h
says_so bytes free all to low after pending (Syntax k) h = (h.token, h.ends, h.place)
says_so bytes free all to low after pending (High k) h = h
says_so bytes free all to low after pending NoMemory h = tt

pub fault_so : (bytes text : List ℕ) (n : Production) (free most : ℕ) (tokens : List Token) (from mid to : Spot) (low after : ℕ) (pending : Pending) (fault : ParseFault) → bytes ≡ text → n ≡ p.File → free ≡ most → Stand text from.at from.last tokens mid.at mid.last → IsAnswer bytes n free tokens mid to low after pending (Err fault) → IsFault text p.File most from to fault
fault_so bytes text n free most tokens from mid to low after pending fault qb qn qf stand a =
    let B : List ℕ → Type 0 = λ x. IsAnswer x n free tokens mid to low after pending (Err fault) in
    let N : Production → Type 0 = λ x. IsAnswer text x free tokens mid to low after pending (Err fault) in
    let F : ℕ → Type 0 = λ x. IsAnswer text p.File x tokens mid to low after pending (Err fault) in
    let b = subst F qf (subst N qn (subst B qb a)) in
    let S : List Token → Type 0 = λ x. Stand text from.at from.last x to.at to.last in
    record {
      tokens = b.all;
      reached = record {
        stand = subst S (sym b.went.are) (stand_append text from.at mid.at to.at from.last mid.last to.last tokens b.went.passed stand b.went.stand);
        begins = b.went.begins;
        fit = b.went.fit;
      };
      faults = says_so text most b.all to low after pending fault b.says;
    }

pub ends_so : (bytes text : List ℕ) (free most : ℕ) (tokens : List Token) (last : Token) (from s to : Spot) (low after : ℕ) (result : Result Node ParseFault) → bytes ≡ text → free ≡ most → to ≡ s → Reached text p.File most from s tokens → IsNext text s.at s.last last → last.kind ≡ End → EndsText bytes free tokens last s low after result → IsTextAnswer text p.File most from to low after result
ends_so bytes text free most tokens last from s to low after (Ok node) qb qf qt r next end e =
    let B : List ℕ → Type 0 = λ x. EndsText x free tokens last s low after (Ok node) in
    let F : ℕ → Type 0 = λ x. EndsText text x tokens last s low after (Ok node) in
    let b = subst F qf (subst B qb e) in
    let P : Spot → Type 0 = λ x. IsText text p.File most from x low after node in
    subst P (sym qt) (record { tokens = tokens; stand = r.stand; last = last; next = next; end = end; tree = b.0; fit = b.1; rises = b.2 })
ends_so bytes text free most tokens last from s to low after (Err fault) qb qf qt r next end e =
    let B : List ℕ → Type 0 = λ x. EndsText x free tokens last s low after (Err fault) in
    let F : ℕ → Type 0 = λ x. EndsText text x tokens last s low after (Err fault) in
    let b = subst F qf (subst B qb e) in
    let P : Spot → Type 0 = λ x. IsFault text p.File most from x fault in
    subst P (sym qt) (record { tokens = tokens; reached = r; faults = b })

-- one token more
pub passed_so : (bytes text : List ℕ) (v : View) (tokens : List Token) (token : Token) (low number : ℕ) (from mid to : Spot) → bytes ≡ text → Stand text from.at from.last tokens mid.at mid.last → IsNext bytes mid.at mid.last token → token.kind ≢ End → to ≡ behind token → IsOpen bytes v (tokens ++ token ∷ []) low number to.at to.last → (us : List Token) × Stand text from.at from.last us to.at to.last × IsOpen bytes v us low number to.at to.last
passed_so bytes text v tokens token low number from mid to q stand next more is o =
    let there = subst (λ x. IsNext x mid.at mid.last token) q next in
    let one_more : Stand text mid.at mid.last (token ∷ []) to.at to.last = (there, more, (ap (λ (x : Spot). x.at) (sym is), ap (λ (x : Spot). x.last) (sym is))) in
    (tokens ++ token ∷ [], stand_append text from.at mid.at to.at from.last mid.last to.last tokens (token ∷ []) stand one_more, o)
