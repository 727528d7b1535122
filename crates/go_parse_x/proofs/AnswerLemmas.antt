-- The answers of the reader, from what its calls do.
use Rattle.std.proofs.Common.{◌≡◌, ◌≢◌, ℕ, ◌≤◌, true, false, List, [], ◌∷◌, ◌++◌, Option, None, Some, Result, Ok, Err, IfOk, IfErr, OnOk, refl, subst, sym, ap, ◌∙◌, ◌⊎◌, inl, inr, append_assoc, cond, Bool}
use Rattle.std.proofs.lemmas.List.{append-nil}
use Rattle.go_tree.specs.declared.token.Token.{Token}
use Rattle.go_tree.specs.declared.token.TokenKind.{TokenKind}
use Rattle.go_tree.specs.declared.token.TokenKind.TheVariants.{End}
use Rattle.go_tree.specs.declared.production.Production.{Production}
use Rattle.go_tree.specs.Height.{height_of}
use Rattle.go_tree.specs.Lexical.Scan.{IsNext, Stand}
use Rattle.go_tree.specs.Grammar.RightSide.{Call, RightSide}
use Rattle.go_tree.specs.Grammar.Trees.Reading.{State, OpenNode, before, tree_read}
use Rattle.go_tree.specs.Grammar.Tables.Brackets.{through_all, standing}
use Rattle.go_tree.specs.Grammar.Tables.Prediction.{starts}
use Rattle.go_tree.specs.Grammar.Trees.Sentence.{production, tables, ReadsGo, IsA, Begins}
use Rattle.go_tree.proofs.PredictionLemmas.{unique}
use Rattle.go_tree.proofs.GrammarLemmas.{tables_right}
use Rattle.go_tree.proofs.GrammarBalance.{tree_lem}
use Rattle.go_tree.proofs.StandLemmas.{stand_append}
use Rattle.go_parse_x.specs.declared.cursor.Cursor.{Cursor}
use Rattle.go_text.specs.declared.fault.ParseFault.{ParseFault}
use Rattle.go_text.specs.declared.fault.ParseFault.TheVariants.{Lexical, Syntax, High, NoMemory}
use Rattle.go_parse_x.specs.declared.parsed.Parsed.{Parsed}
use Rattle.go_parse_x.specs.declared.parsed.Parsed.TheVariants.{Whole, Block}
use Rattle.go_parse_x.specs.declared.pending.Pending.{Pending}
use Rattle.go_parse_x.specs.declared.progress.Progress.{Progress}
use Rattle.go_parse_x.specs.declared.progress.Progress.TheVariants.{Passed, AtBlock}
use Rattle.go_parse_x.specs.declared.seen.Seen.{Seen}
use Rattle.go_text.specs.Faults.{Spot}
use Rattle.go_parse_x.specs.Answers.{Went, IsAnswer, IsBlock, IsReady, spot_of}
use Rattle.go_parse_x.specs.Tables.Opened.{tree_without, Rises}
use Rattle.go_parse_x.specs.Pieces.{HasRead, View, IsNew, IsAsked, IsOpen, IsAwaiting, open_view, OpensBlock, PassesNoBlock, new_view}
use Rattle.go_parse_x.specs.Machine.Steps.{IsTooHigh, IsStray, IsProgress, IsRead, HasNumbers, behind}
use Rattle.go_parse_x.specs.Targets.{piece, hands}
use Rattle.go_parse_x.specs.Texts.{one}
use Rattle.go_tree.specs.Lexical.Faults.{IsLex}
use Rattle.go_parse_x.specs.Machine.Turns as turns
use Rattle.go_parse_x.specs.Machine.Turns.{at, is_asked, IsSound, IsStuck, GoesOn}
use Rattle.go_parse_x.proofs.EndTokenLemmas.{is_file}
use Rattle.go_parse_x.proofs.PieceLemmas.{IsPiece, fits_on, goes_begin, stuck_never, astray_never, asked_no_whole, inside_no_whole, end_whole, end_no_whole, end_token_never, piece_is}
use Rattle.go_parse_x.proofs.NoBlockLemmas.{none_passed, one_passed, both_passed}
use Rattle.go_parse_x.proofs.OpenLemmas.{alone_decided}
use Rattle.go_parse_x.proofs.TurnLemmas.{never_starts}

-- what holds of an Ok
pub on_ok : {A E : Type 0} {P Q R : Type 0} → (r : Result A E) → (P → Q → R) → OnOk r P → OnOk r Q → OnOk r R
on_ok (Ok a) f p q = f p q
on_ok (Err e) f p q = tt

pub ok_alone : {A E : Type 0} {P R : Type 0} → (r : Result A E) → (P → R) → OnOk r P → OnOk r R
ok_alone (Ok a) f p = f p
ok_alone (Err e) f p = tt

pub if_ok : {A E : Type 0} {P Q : A → Type 0} → (r : Result A E) → ((a : A) → P a → Q a) → IfOk r P → IfOk r Q
if_ok (Ok a) f p = f a p
if_ok (Err e) f p = tt

-- what is awaited
opens_block : (bytes : List ℕ) (v : View) (front : List Token) (low number to : ℕ) (kind : Option TokenKind) (a : IsAwaiting bytes v front low number to kind) → OpensBlock bytes v.n front a.brace
opens_block bytes v front low number to kind a =
    let P : List (RightSide Production) → Type 0 = λ g. (ts : List Token) (e : State) → e.rest ≡ [] → ReadsGo bytes (Call v.n ∷ []) (before (front ++ a.brace ∷ ts)) e → ReadsGo bytes g (at v.last (a.brace ∷ ts) v.nodes) e in
    let Q : List (RightSide Production) → Type 0 = λ g. (ts : List Token) (e : State) → e.rest ≡ [] → ReadsGo bytes g (at v.last (a.brace ∷ ts) v.nodes) e → ReadsGo bytes (Call v.n ∷ []) (before (front ++ a.brace ∷ ts)) e in
    record {
      is_brace = a.is_brace;
      rest = a.rest;
      last = v.last;
      nodes = v.nodes;
      there = subst P a.block a.there;
      back = subst Q a.block a.back;
      firm = (subst IsSound a.block a.sound).held.1;
    }

module _ (bytes : List ℕ) (v : View) (is : IsPiece v.n) (front : List Token) (low number : ℕ) (s : Spot) (o : IsOpen bytes v front low number s.at s.last) where
  went_none : Went bytes v.n v.free front s s front
  went_none = record { passed = []; are = sym (append-nil front); stand = (refl, refl); begins = o.begins; fit = o.fit; no_block = none_passed bytes v.n front }

  went_one : (t : Token) → IsNext bytes s.at s.last t → t.kind ≢ End → (to : Spot) → to ≡ behind t → Begins bytes v.n (front ++ t ∷ []) → height_of (front ++ t ∷ []) ≤ v.free → (OpensBlock bytes v.n front t → ⊥) → Went bytes v.n v.free front s to (front ++ t ∷ [])
  went_one t next more to q begins fit over = record {
    passed = t ∷ [];
    are = refl;
    stand = (next, more, (ap (λ (x : Spot). x.at) (sym q), ap (λ (x : Spot). x.last) (sym q)));
    begins = begins;
    fit = fits_on v.free front t o.fit fit;
    no_block = one_passed bytes v.n front t over;
  }

  -- ---- nothing more is passed

  lexical_answer_at : (after : ℕ) (p : Pending) (fault : ParseFault) (e : _) → fault ≡ Lexical e → IsLex bytes s.at s.last e → IsAnswer bytes v.n v.free front s s low after p (Err fault)
  lexical_answer_at after p fault e q lex =
      let P : ParseFault → Type 0 = λ f. IsAnswer bytes v.n v.free front s s low after p (Err f) in
      subst P (sym q) (record { all = front; went = went_none; says = lex })

  pub memory_answer : (after : ℕ) (p : Pending) → IsAnswer bytes v.n v.free front s s low after p (Err NoMemory)
  memory_answer after p = record { all = front; went = went_none; says = tt }

  pub lexical_answer : (after : ℕ) (p : Pending) (e : _) → IsLex bytes s.at s.last e → IsAnswer bytes v.n v.free front s s low after p (Err (Lexical e))
  lexical_answer after p e lex = lexical_answer_at after p (Lexical e) e refl lex

  pub syntax_answer : (after : ℕ) (p : Pending) (t : Token) → IsNext bytes s.at s.last t → (Begins bytes v.n (front ++ t ∷ []) → ⊥) → (IsA bytes v.n front → ⊥) → IsAnswer bytes v.n v.free front s s low after p (Err (Syntax t.start))
  syntax_answer after p t next never no_piece = record {
    all = front;
    went = went_none;
    says = record { token = t; ends = record { next = next; never = never }; no_piece = no_piece; place = refl };
  }

  high_says : (after : ℕ) (p : Pending) (t : Token) → IsNext bytes s.at s.last t → Begins bytes v.n (front ++ t ∷ []) → (fault : ParseFault) → IsTooHigh v.free t v.heights fault → IsAnswer bytes v.n v.free front s s low after p (Err fault)
  high_says after p t next begins (Lexical e) h = absurd h
  high_says after p t next begins (Syntax k) h = absurd h
  high_says after p t next begins (High k) h = record {
    all = front;
    went = went_none;
    says = record { token = t; next = next; begins = begins; past = h.1 front o.counts; place = h.0 };
  }
  high_says after p t next begins NoMemory h = memory_answer after p

  pub high_answer : (after : ℕ) (p : Pending) (t : Token) → IsNext bytes s.at s.last t → Begins bytes v.n (front ++ t ∷ []) → (to : Spot) → to ≡ s → (fault : ParseFault) → IsTooHigh v.free t v.heights fault → IsAnswer bytes v.n v.free front s to low after p (Err fault)
  high_answer after p t next begins to q fault h =
      let P : Spot → Type 0 = λ x. IsAnswer bytes v.n v.free front s x low after p (Err fault) in
      subst P (sym q) (high_says after p t next begins fault h)

  -- ---- the end of the piece

  asked_whole : (assumed : Option TokenKind) → HasRead bytes v.n front assumed v.rest v.last v.nodes → IsAsked assumed s.last → (through_all standing v.rest 0 ≡ Some 0 → ⊥) → IsA bytes v.n front → ⊥
  asked_whole None h a never w = inside_no_whole bytes v.n front v.rest v.last o.level v.nodes h o.levels never w
  asked_whole (Some k) h a never w = asked_no_whole bytes v.n is front s.at s.last a.0 o.behind a.1 a.2 w

  -- the next token is stuck; where it could not even stand there, the front is known to be no whole piece
  pub stuck_answer : (after : ℕ) (p : Pending) (seen : Seen) → v.last ≡ seen.last → IsNext bytes s.at s.last seen.token → IsStuck bytes seen None v.rest v.nodes → IsSound v.rest → (starts tables v.rest seen.token.kind ≡ false → IsA bytes v.n front → ⊥) → IsAnswer bytes v.n v.free front s s low after p (Err (Syntax seen.token.start))
  stuck_answer after p seen q next x sound no_piece =
      let P : ℕ → Type 0 = λ l. HasRead bytes v.n front o.assumed v.rest l v.nodes in
      syntax_answer after p seen.token next
      (stuck_never bytes v.n is front o.assumed seen v.rest v.nodes (subst P q o.reads) (o.next seen.token next) x)
      (go (starts tables v.rest seen.token.kind) refl)
    where
      go : (b : Bool) → starts tables v.rest seen.token.kind ≡ b → IsA bytes v.n front → ⊥
      go true h = asked_whole o.assumed o.reads o.asked (x.inside refl sound h)
      go false h = no_piece h

  pub end_never : (t : Token) → is_file v.n ≡ false → IsNext bytes s.at s.last t → (t.kind ≡ End) ⊎ (starts tables v.rest t.kind ≡ false) → Begins bytes v.n (front ++ t ∷ []) → ⊥
  end_never t not_file next (inl q) b = end_token_never bytes v.n not_file front t q b
  end_never t not_file next (inr q) b =
      let seen : Seen = record { token = t; ahead = None; last = v.last; hands_over = true } in
      stuck_never bytes v.n is front o.assumed seen v.rest v.nodes o.reads (o.next t next) (never_starts bytes seen v.rest v.nodes q) b

  -- nothing was assumed where the last token is not asked for with the next one
  sure_of : (assumed : Option TokenKind) → IsAsked assumed s.last → ((kind : TokenKind) → s.last ≡ Some kind → is_asked kind ≡ false) → assumed ≡ None
  sure_of None a h = refl
  sure_of (Some k) a h = absurd (let z = h a.0 a.1 in let w = a.2 in cc)

  sure_read : ((kind : TokenKind) → s.last ≡ Some kind → is_asked kind ≡ false) → HasRead bytes v.n front None v.rest v.last v.nodes
  sure_read h = let P : Option TokenKind → Type 0 = λ a. HasRead bytes v.n front a v.rest v.last v.nodes in subst P (sure_of o.assumed o.asked h) o.reads

  pub asked_answer : (after : ℕ) (p : Pending) (t : Token) → is_file v.n ≡ false → IsNext bytes s.at s.last t → (t.kind ≡ End) ⊎ (starts tables v.rest t.kind ≡ false) → (kind : TokenKind) × (s.last ≡ Some kind) × (is_asked kind ≡ true) → IsAnswer bytes v.n v.free front s s low after p (Err (Syntax t.start))
  asked_answer after p t not_file next last a = syntax_answer after p t next (end_never t not_file next last) (asked_no_whole bytes v.n is front s.at s.last a.0 o.behind a.1 a.2)

  pub unfinished_answer : (after : ℕ) (p : Pending) (t : Token) → is_file v.n ≡ false → IsNext bytes s.at s.last t → (t.kind ≡ End) ⊎ (starts tables v.rest t.kind ≡ false) → ((kind : TokenKind) → s.last ≡ Some kind → is_asked kind ≡ false) → ((e : State) → ReadsGo bytes v.rest (at v.last [] v.nodes) e → ⊥) → IsAnswer bytes v.n v.free front s s low after p (Err (Syntax t.start))
  unfinished_answer after p t not_file next last sure never = syntax_answer after p t next (end_never t not_file next last) (end_no_whole bytes v.n front v.rest v.last v.nodes (sure_read sure) never)

  -- what is read to the end has a node
  has_node : (es : List OpenNode) → HasRead bytes v.n front None v.rest v.last v.nodes → ReadsGo bytes v.rest (at v.last [] v.nodes) (at v.last [] es) → tree_read es ≡ None → ⊥
  has_node es h r none =
      let d = subst (λ w. ReadsGo bytes (Call v.n ∷ []) (before w) (at v.last [] es)) (append-nil front) (h.back [] (at v.last [] es) tt refl r) in
      let z = tree_lem bytes v.n front is.whole (record { end = at v.last [] es; reads = d; all = refl }) in
      let q = unique Production production bytes tables tables_right z.1.whole.reads (alone_decided v.n) d z.1.whole.all refl in
      let w : tree_read es ≡ Some z.0 = ap (λ (x : State). tree_read x.open_nodes) (sym q) ∙ z.1.tree in
      absurd (let u = sym none ∙ w in cc)

  pub whole_answer : (after : ℕ) (p : Pending) (t : Token) → is_file v.n ≡ false → IsNext bytes s.at s.last t → (t.kind ≡ End) ⊎ (starts tables v.rest t.kind ≡ false) → ((kind : TokenKind) → s.last ≡ Some kind → is_asked kind ≡ false) → (es : List OpenNode) → ReadsGo bytes v.rest (at v.last [] v.nodes) (at v.last [] es) → (numbers : List ℕ) → Rises low numbers after → (result : Result Parsed ParseFault) → IsRead es result → HasNumbers numbers result → IfOk result (λ _. IsNew p) → IsAnswer bytes v.n v.free front s s low after p result
  whole_answer after p t not_file next last sure es r numbers rises (Ok (Whole node)) read has new = record {
    all = front;
    went = went_none;
    says = (
      record {
        tree = end_whole bytes v.n front v.rest v.last v.nodes es (sure_read sure) r (tree_without node) read;
        token = t;
        ends = record { next = next; never = end_never t not_file next last };
        rises = has low after rises;
      },
      new,
    );
  }
  whole_answer after p t not_file next last sure es r numbers rises (Ok Block) read has new = absurd read
  whole_answer after p t not_file next last sure es r numbers rises (Err fault) read has new = absurd (has_node es (sure_read sure) r read)

  -- ---- a token more

  begins_seen : (seen : Seen) → v.last ≡ seen.last → IsNext bytes s.at s.last seen.token → GoesOn bytes seen v.rest v.nodes → Begins bytes v.n (front ++ seen.token ∷ [])
  begins_seen seen q next goes =
      let P : ℕ → Type 0 = λ l. HasRead bytes v.n front o.assumed v.rest l v.nodes in
      goes_begin bytes v.n is front o.assumed seen v.rest v.nodes (subst P q o.reads) (o.next seen.token next) goes

  asked_no_block : (seen : Seen) → is_asked seen.token.kind ≡ true → OpensBlock bytes v.n front seen.token → ⊥
  asked_no_block seen h b = absurd (let q = ap is_asked b.is_brace in cc)

  -- the token that follows is at fault, or none follows
  pub stray_answer : (after : ℕ) (p : Pending) (seen : Seen) → v.last ≡ seen.last → IsNext bytes s.at s.last seen.token → seen.token.kind ≢ End → turns.IsAsked bytes seen v.rest v.nodes → ((u : Token) → IsNext bytes seen.token.end (Some seen.token.kind) u → Begins bytes v.n ((front ++ seen.token ∷ []) ++ u ∷ []) → ⊥) → (to : Spot) (fault : ParseFault) → IsStray bytes v.free seen.token v.heights s to fault → IsAnswer bytes v.n v.free front s to low after p (Err fault)
  stray_answer after p seen q next more asked never to (Lexical e) h = record {
    all = front ++ seen.token ∷ [];
    went = went_one seen.token next more to h.0 (begins_seen seen q next asked.goes_on) (h.1 front o.counts) (asked_no_block seen asked.asked);
    says = h.2;
  }
  stray_answer after p seen q next more asked never to (Syntax k) h =
      let P : Spot → Type 0 = λ x. IsNext bytes x.at x.last h.2.0 in
      record {
        all = front ++ seen.token ∷ [];
        went = went_one seen.token next more to h.0 (begins_seen seen q next asked.goes_on) (h.1 front o.counts) (asked_no_block seen asked.asked);
        says = record {
          token = h.2.0;
          ends = record { next = h.2.1; never = never h.2.0 (subst P h.0 h.2.1) };
          no_piece = asked_no_whole bytes v.n is (front ++ seen.token ∷ []) seen.token.end (Some seen.token.kind) seen.token.kind (one front seen.token) refl asked.asked;
          place = h.2.2;
        };
      }
  stray_answer after p seen q next more asked never to (High k) h = high_answer after p seen.token next (begins_seen seen q next asked.goes_on) to h.0 (High k) h.1
  stray_answer after p seen q next more asked never to NoMemory h = high_answer after p seen.token next (begins_seen seen q next asked.goes_on) to h.0 NoMemory h.1

  pub astray_answer : (after : ℕ) (p : Pending) (seen : Seen) → v.last ≡ seen.last → IsNext bytes s.at s.last seen.token → seen.token.kind ≢ End → (kind : TokenKind) → turns.IsAsked bytes seen v.rest v.nodes → IsStuck bytes seen (Some kind) v.rest v.nodes → ((u : Token) → IsNext bytes seen.token.end (Some seen.token.kind) u → u.kind ≡ kind) → (to : Spot) (fault : ParseFault) → IsStray bytes v.free seen.token v.heights s to fault → IsAnswer bytes v.n v.free front s to low after p (Err fault)
  astray_answer after p seen q next more kind asked x right to fault h =
      let P : ℕ → Type 0 = λ l. HasRead bytes v.n front o.assumed v.rest l v.nodes in
      stray_answer after p seen q next more asked
      (λ u w. astray_never bytes v.n is front o.assumed seen v.rest v.nodes (subst P q o.reads) (o.next seen.token next) kind u (right u w) x)
      to fault h

  pub passed_progress : (after : ℕ) (p : Pending) (seen : Seen) → v.last ≡ seen.last → IsNext bytes s.at s.last seen.token → GoesOn bytes seen v.rest v.nodes → (to : Spot) (result : Result Progress ParseFault) → IfOk result (λ progress. (progress ≡ Passed) × (to ≡ behind seen.token)) → IfErr result (λ fault. (to ≡ s) × IsTooHigh v.free seen.token v.heights fault) → (hands p.reading ≡ true → OpensBlock bytes v.n front seen.token → ⊥) → OnOk result (IsOpen bytes (open_view p) (front ++ seen.token ∷ []) low after seen.token.end (Some seen.token.kind)) → IsProgress bytes v.n v.free front s to low after p seen.token result
  passed_progress after p seen q next goes to (Ok Passed) h high over opened = (h.1, over, let P : Spot → Type 0 = λ x. IsOpen bytes (open_view p) (front ++ seen.token ∷ []) low after x.at x.last in subst P (sym h.1) opened)
  passed_progress after p seen q next goes to (Ok AtBlock) h high over opened = absurd (let z = h.0 in cc)
  passed_progress after p seen q next goes to (Err fault) h high over opened = high_answer after p seen.token next (begins_seen seen q next goes) to high.0 fault high.1

  pub block_progress : (after : ℕ) (p : Pending) (seen : Seen) → v.last ≡ seen.last → IsNext bytes s.at s.last seen.token → GoesOn bytes seen v.rest v.nodes → (result : Result Progress ParseFault) → IfOk result (λ progress. (progress ≡ AtBlock) × (p.awaits ≡ true)) → hands p.reading ≡ true → IfErr result (λ fault. IsTooHigh v.free seen.token v.heights fault) → OnOk result (IsAwaiting bytes (open_view p) front low after s.at s.last) → IsProgress bytes v.n v.free front s s low after p seen.token result
  block_progress after p seen q next goes (Ok Passed) h over high awaits = absurd (let z = h.0 in cc)
  block_progress after p seen q next goes (Ok AtBlock) h over high awaits = (refl, h.1, over, awaits)
  block_progress after p seen q next goes (Err fault) h over high awaits = high_answer after p seen.token next (begins_seen seen q next goes) s refl fault high

  pub block_answer : (after : ℕ) (p : Pending) (token : Token) (to : Spot) → v.n ≡ (open_view p).n → v.free ≡ (open_view p).free → p.begun ≡ true → IsProgress bytes v.n v.free front s to low after p token (Ok AtBlock) → IsAnswer bytes v.n v.free front s to low after p (Ok Block)
  block_answer after p token to qn qf begun h =
      let P : Spot → Type 0 = λ x. Went bytes v.n v.free front s x front in
      record { all = front; went = subst P (sym h.0) went_none; says = (is_block p to after v.n v.free qn qf h.3, begun, h.1, h.3) }
    where
      is_block : (p : Pending) (to : Spot) (after : ℕ) (n : Production) (free : ℕ) → n ≡ (open_view p).n → free ≡ (open_view p).free → IsAwaiting bytes (open_view p) front low after to.at to.last → IsBlock bytes n free front to
      is_block p to after n free qn qf a =
          let N : Production → Type 0 = λ m. IsBlock bytes m free front to in
          let F : ℕ → Type 0 = λ f. IsBlock bytes (open_view p).n f front to in
          let w = open_view p in
          subst N (sym qn) (subst F (sym qf) (record {
            brace = a.brace;
            next = a.next;
            opens = opens_block bytes w front low after to.at to.last a;
            begins = a.begins;
            fit = a.fit;
          }))

-- want of memory before anything is read
pub memory_before : (c : Cursor) (p : Pending) (front : List Token) (low : ℕ) → IsReady c p front low → (after : ℕ) (q : Pending) → IsAnswer c.bytes.now (piece p.reading) p.free front (spot_of c) (spot_of c) low after q (Err NoMemory)
memory_before c p front low ready after q = go p.begun refl
  where
    go : (b : Bool) → p.begun ≡ b → IsAnswer c.bytes.now (piece p.reading) p.free front (spot_of c) (spot_of c) low after q (Err NoMemory)
    go true e =
        let P : Bool → Type 0 = λ x. IsOpen c.bytes.now (cond x (open_view p) (new_view p)) front low c.number c.at c.last in
        memory_answer c.bytes.now (open_view p) (piece_is p.reading) front low c.number (spot_of c) (subst P e ready.is_open) after q
    go false e =
        let P : Bool → Type 0 = λ x. IsOpen c.bytes.now (cond x (open_view p) (new_view p)) front low c.number c.at c.last in
        memory_answer c.bytes.now (new_view p) (piece_is p.reading) front low c.number (spot_of c) (subst P e ready.is_open) after q

-- ---- tokens that were passed before

-- the answer behind them is the answer before them
pub answer_behind : (bytes text : List ℕ) (n m : Production) (free most : ℕ) (front us : List Token) (from mid to : Spot) (low number : ℕ) (p : Pending) (result : Result Parsed ParseFault) → bytes ≡ text → n ≡ m → free ≡ most → Stand text from.at from.last us mid.at mid.last → PassesNoBlock text m front us → IsAnswer bytes n free (front ++ us) mid to low number p result → IsAnswer text m most front from to low number p result
answer_behind bytes text n m free most front us from mid to low number p result qb qn qf stand over a =
    let B : List ℕ → Type 0 = λ x. IsAnswer x n free (front ++ us) mid to low number p result in
    let N : Production → Type 0 = λ x. IsAnswer text x free (front ++ us) mid to low number p result in
    let F : ℕ → Type 0 = λ x. IsAnswer text m x (front ++ us) mid to low number p result in
    let b = subst F qf (subst N qn (subst B qb a)) in
    record {
      all = b.all;
      went = record {
        passed = us ++ b.went.passed;
        are = b.went.are ∙ append_assoc front us b.went.passed;
        stand = stand_append text from.at mid.at to.at from.last mid.last to.last us b.went.passed stand b.went.stand;
        begins = b.went.begins;
        fit = b.went.fit;
        no_block = both_passed text m front us b.went.passed over b.went.no_block;
      };
      says = b.says;
    }

-- one token more
pub open_behind : (bytes text : List ℕ) (v : View) (m : Production) (front us : List Token) (token : Token) (low number : ℕ) (from mid to : Spot) → bytes ≡ text → v.n ≡ m → Stand text from.at from.last us mid.at mid.last → PassesNoBlock text m front us → IsNext bytes mid.at mid.last token → token.kind ≢ End → to ≡ behind token → (OpensBlock bytes v.n (front ++ us) token → ⊥) → IsOpen bytes v ((front ++ us) ++ token ∷ []) low number to.at to.last → (vs : List Token) × Stand text from.at from.last vs to.at to.last × PassesNoBlock text m front vs × IsOpen bytes v (front ++ vs) low number to.at to.last
open_behind bytes text v m front us token low number from mid to q qn stand over next more is free o =
    let P : List Token → Type 0 = λ x. IsOpen bytes v x low number to.at to.last in
    let there = subst (λ x. IsNext x mid.at mid.last token) q next in
    let one_more : Stand text mid.at mid.last (token ∷ []) to.at to.last = (there, more, (ap (λ (x : Spot). x.at) (sym is), ap (λ (x : Spot). x.last) (sym is))) in
    let B : List ℕ → Type 0 = λ x. OpensBlock x v.n (front ++ us) token → ⊥ in
    let N : Production → Type 0 = λ x. OpensBlock text x (front ++ us) token → ⊥ in
    let one_free = one_passed text m (front ++ us) token (subst N qn (subst B q free)) in (
      us ++ token ∷ [],
      stand_append text from.at mid.at to.at from.last mid.last to.last us (token ∷ []) stand one_more,
      both_passed text m front us (token ∷ []) over one_free,
      subst P (append_assoc front us (token ∷ [])) o,
    )
