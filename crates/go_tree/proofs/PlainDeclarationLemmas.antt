-- The plain lines of declarations: type specs.
use Rattle.std.proofs.Common.{◌≡◌, ℕ, Bool, true, false, cond, List, [], ◌∷◌, refl, sym, subst, Option, Some, None, ◌↔◌}
use Rattle.go_tree.specs.declared.token.Token.{Token}
use Rattle.go_tree.specs.declared.token.TokenKind.{TokenKind}
use Rattle.go_tree.specs.declared.token.TokenKind.TheVariants.{Ident, Assign, Ellipsis, LeftBracket, Comma, RightBracket}
use Rattle.go_tree.specs.declared.node_kind.NodeKind.TheVariants as k
use Rattle.go_tree.specs.declared.production.Items.TheVariants.{TypeParamGroups}
use Rattle.go_tree.specs.declared.production.Production.{Production}
use Rattle.go_tree.specs.declared.production.Production.TheVariants as p
use Rattle.go_tree.specs.Grammar.RightSide.{RightSide, Do, Seq, Act, Pass, Open, Reopen, Close}
use Rattle.go_tree.specs.Grammar.Tables.TokenKinds.{same_kind}
use Rattle.go_tree.specs.Grammar.Words.{◌•◌, ◌or◌, tok, the, opt, many, open_node, reopen_last, close}
use Rattle.go_tree.specs.Grammar.Declarations.{array_spec}
use Rattle.go_tree.specs.Grammar.Trees.Reading.{State, OpenNode, calls, in_turn, does, acted, passed, next_start, node_read}
use Rattle.go_tree.specs.Grammar.Trees.Sentence.{production, ReadsGo}
use Rattle.go_tree.specs.Grammar.Plain.Declarations.{plain_type_spec}
use Rattle.go_tree.specs.Grammar.Plain.Lines.{ReadsSame}
use Rattle.go_tree.proofs.ReadingLemmas.{split, join, in_turn_of}
use Rattle.go_tree.proofs.PlainLemmas.{same_alternatives}
use Rattle.go_tree.proofs.SameReadingLemmas.{same_refl, same_trans, same_call, same_then, same_or, passes_keep}

abbrev none_opened : ℕ → Production → Bool
none_opened k n = false

-- an act whose outcome is known
acts : (a : Act) {bytes : List ℕ} {gs : List (RightSide Production)} {s m e : State} → acted bytes a s ≡ Some m → ReadsGo bytes (Do a ∷ gs) s e → ReadsGo bytes gs m e
acts a {bytes} {gs} {s} {m} {e} q (does {m = n} h d) = let same : n ≡ m = cc in subst (λ x. ReadsGo bytes gs x e) same d

-- a token that is passed is passed whatever nodes are open
passed_over : (k : TokenKind) (t : Token) (ts : List Token) (fs gs : List OpenNode) (m : State) → passed k (t ∷ ts) fs ≡ Some m → passed k (t ∷ ts) gs ≡ Some (record { last = t.end; rest = ts; open_nodes = gs })
passed_over k t ts fs gs m h = go (same_kind k t.kind) h
  where
    go : (b : Bool) → cond b (Some (record { last = t.end; rest = ts; open_nodes = fs })) None ≡ Some m → cond {A = Option State} b (Some (record { last = t.end; rest = ts; open_nodes = gs })) None ≡ Some (record { last = t.end; rest = ts; open_nodes = gs })
    go true q = refl
    go false q = cc

module _ (bytes : List ℕ) (gs : List (RightSide Production)) (e : State) (last : ℕ) (t : Token) (ts : List Token) (f : OpenNode) (fs : List OpenNode) where
  -- the node that begins at the token
  abbrev fresh : OpenNode
  fresh = record { start = t.start; parts = [] }

  -- the name is read, and is the first part of a node
  abbrev begun : State
  begun = record { last = t.end; rest = ts; open_nodes = record { start = t.start; parts = node_read bytes k.Name t.end fresh ∷ [] } ∷ f ∷ fs }

  abbrev at_name : State
  at_name = record { last = last; rest = t ∷ ts; open_nodes = f ∷ fs }

  named_then_begun : ReadsGo bytes (the p.Name ∷ reopen_last ∷ gs) at_name e → (m : State) × (passed Ident (t ∷ ts) (fresh ∷ f ∷ fs) ≡ Some m) × ReadsGo bytes gs begun e
  named_then_begun (calls (in_turn d)) = go (acts Open {m = record { last = last; rest = t ∷ ts; open_nodes = fresh ∷ f ∷ fs }} refl d)
    where
      go : ReadsGo bytes (Seq (tok Ident) (close k.Name) ∷ reopen_last ∷ gs) (record { last = last; rest = t ∷ ts; open_nodes = fresh ∷ f ∷ fs }) e → (m : State) × (passed Ident (t ∷ ts) (fresh ∷ f ∷ fs) ≡ Some m) × ReadsGo bytes gs begun e
      go (in_turn (does {m = m} h c)) =
          let closing : ReadsGo bytes (close k.Name ∷ reopen_last ∷ gs) (record { last = t.end; rest = ts; open_nodes = fresh ∷ f ∷ fs }) e = acts (Pass Ident) {s = record { last = last; rest = t ∷ ts; open_nodes = fresh ∷ f ∷ fs }} (passed_over Ident t ts (fresh ∷ f ∷ fs) (fresh ∷ f ∷ fs) m h) (does h c) in
          let beginning : ReadsGo bytes (reopen_last ∷ gs) (record { last = t.end; rest = ts; open_nodes = record { start = f.start; parts = node_read bytes k.Name t.end fresh ∷ f.parts } ∷ fs }) e = acts (Close k.Name) refl closing in
          (m, h, acts Reopen refl beginning)

  begun_then_named : ReadsGo bytes (open_node ∷ the p.Name ∷ gs) at_name e → (m : State) × (passed Ident (t ∷ ts) (fresh ∷ fresh ∷ f ∷ fs) ≡ Some m) × ReadsGo bytes gs begun e
  begun_then_named d = go (acts Open {m = record { last = last; rest = t ∷ ts; open_nodes = fresh ∷ f ∷ fs }} refl d)
    where
      inside : ReadsGo bytes (Seq (tok Ident) (close k.Name) ∷ gs) (record { last = last; rest = t ∷ ts; open_nodes = fresh ∷ fresh ∷ f ∷ fs }) e → (m : State) × (passed Ident (t ∷ ts) (fresh ∷ fresh ∷ f ∷ fs) ≡ Some m) × ReadsGo bytes gs begun e
      inside (in_turn (does {m = m} h c)) =
          let closing : ReadsGo bytes (close k.Name ∷ gs) (record { last = t.end; rest = ts; open_nodes = fresh ∷ fresh ∷ f ∷ fs }) e = acts (Pass Ident) {s = record { last = last; rest = t ∷ ts; open_nodes = fresh ∷ fresh ∷ f ∷ fs }} (passed_over Ident t ts (fresh ∷ fresh ∷ f ∷ fs) (fresh ∷ fresh ∷ f ∷ fs) m h) (does h c) in
          (m, h, acts (Close k.Name) refl closing)

      go : ReadsGo bytes (the p.Name ∷ gs) (record { last = last; rest = t ∷ ts; open_nodes = fresh ∷ f ∷ fs }) e → (m : State) × (passed Ident (t ∷ ts) (fresh ∷ fresh ∷ f ∷ fs) ≡ Some m) × ReadsGo bytes gs begun e
      go (calls (in_turn c)) = inside (acts Open {m = record { last = last; rest = t ∷ ts; open_nodes = fresh ∷ fresh ∷ f ∷ fs }} refl c)

  name_ahead : ReadsGo bytes (the p.Name ∷ reopen_last ∷ gs) at_name e → ReadsGo bytes (open_node ∷ the p.Name ∷ gs) at_name e
  name_ahead d = let z = named_then_begun d in does refl (calls (in_turn (does refl (in_turn (does (passed_over Ident t ts (fresh ∷ f ∷ fs) (fresh ∷ fresh ∷ f ∷ fs) z.0 z.1) (does refl z.2))))))

  name_back : ReadsGo bytes (open_node ∷ the p.Name ∷ gs) at_name e → ReadsGo bytes (the p.Name ∷ reopen_last ∷ gs) at_name e
  name_back d = let z = begun_then_named d in calls (in_turn (does refl (in_turn (does (passed_over Ident t ts (fresh ∷ fresh ∷ f ∷ fs) (fresh ∷ f ∷ fs) z.0 z.1) (does refl (does refl z.2))))))

module _ (bytes : List ℕ) (gs : List (RightSide Production)) (e : State) where
  -- no name is read where no token is left
  none_named : (last : ℕ) (fs : List OpenNode) (hs : List (RightSide Production)) → ReadsGo bytes (the p.Name ∷ hs) (record { last = last; rest = []; open_nodes = fs }) e → ⊥
  none_named last fs hs (calls (in_turn d)) = go (acts Open {m = record { last = last; rest = []; open_nodes = record { start = last; parts = [] } ∷ fs }} refl d)
    where
      go : ReadsGo bytes (Seq (tok Ident) (close k.Name) ∷ hs) (record { last = last; rest = []; open_nodes = record { start = last; parts = [] } ∷ fs }) e → ⊥
      go (in_turn (does h c)) = cc

  named_first : (last : ℕ) (rest : List Token) (f : OpenNode) (fs : List OpenNode) → ReadsGo bytes (the p.Name ∷ reopen_last ∷ gs) (record { last = last; rest = rest; open_nodes = f ∷ fs }) e → ReadsGo bytes (open_node ∷ the p.Name ∷ gs) (record { last = last; rest = rest; open_nodes = f ∷ fs }) e
  named_first last [] f fs d = absurd (none_named last (f ∷ fs) (reopen_last ∷ gs) d)
  named_first last (t ∷ ts) f fs d = name_ahead bytes gs e last t ts f fs d

  begun_first : (last : ℕ) (rest : List Token) (f : OpenNode) (fs : List OpenNode) → ReadsGo bytes (open_node ∷ the p.Name ∷ gs) (record { last = last; rest = rest; open_nodes = f ∷ fs }) e → ReadsGo bytes (the p.Name ∷ reopen_last ∷ gs) (record { last = last; rest = rest; open_nodes = f ∷ fs }) e
  begun_first last [] f fs d = absurd (none_named last (record { start = last; parts = [] } ∷ f ∷ fs) gs (acts Open refl d))
  begun_first last (t ∷ ts) f fs d = name_back bytes gs e last t ts f fs d

  -- where some node is open
  named_is_begun : (s : State) (f : OpenNode) (fs : List OpenNode) → s.open_nodes ≡ f ∷ fs → ReadsGo bytes (the p.Name ∷ reopen_last ∷ gs) s e ↔ ReadsGo bytes (open_node ∷ the p.Name ∷ gs) s e
  named_is_begun s f fs q = subst (λ os. ReadsGo bytes (the p.Name ∷ reopen_last ∷ gs) (record { last = s.last; rest = s.rest; open_nodes = os }) e ↔ ReadsGo bytes (open_node ∷ the p.Name ∷ gs) (record { last = s.last; rest = s.rest; open_nodes = os }) e) (sym q) (named_first s.last s.rest f fs, begun_first s.last s.rest f fs)

in_turns : {a : Act} {b c : RightSide Production} {bytes : List ℕ} {gs : List (RightSide Production)} {s e : State} → ReadsGo bytes (Do a ∷ b ∷ c ∷ gs) s e → ReadsGo bytes (Seq (Do a) (Seq b c) ∷ gs) s e
in_turns (does h d) = in_turn (does h (in_turn d))

-- where a node was opened
abbrev inside : State → State
inside s = record { last = s.last; rest = s.rest; open_nodes = record { start = next_start s.last s.rest; parts = [] } ∷ s.open_nodes }

opened : {g : RightSide Production} {bytes : List ℕ} {gs : List (RightSide Production)} {s e : State} → ReadsGo bytes (Seq open_node g ∷ gs) s e → ReadsGo bytes (g ∷ gs) (inside s) e
opened (in_turn d) = acts Open refl d

-- a node that is begun with the name that was read first behind a token is a node behind that token
name_begins : (w : TokenKind) (x : RightSide Production) → ReadsSame (open_node • tok w • the p.Name • reopen_last • x) (open_node • tok w • open_node • the p.Name • x)
name_begins w x bytes gs s e = (λ d. ahead (opened d), λ d. back (opened d))
  where
    same : (m : State) → passed w (inside s).rest (inside s).open_nodes ≡ Some m → ReadsGo bytes (the p.Name ∷ reopen_last ∷ x ∷ gs) m e ↔ ReadsGo bytes (open_node ∷ the p.Name ∷ x ∷ gs) m e
    same m h = named_is_begun bytes (x ∷ gs) e m (record { start = next_start s.last s.rest; parts = [] }) s.open_nodes (passes_keep w (inside s).rest (inside s).open_nodes m h)

    ahead : ReadsGo bytes (Seq (tok w) (Seq (the p.Name) (Seq reopen_last x)) ∷ gs) (inside s) e → ReadsGo bytes (Seq open_node (Seq (tok w) (Seq open_node (Seq (the p.Name) x))) ∷ gs) s e
    ahead (in_turn (does {m = m} h (in_turn d))) =
        let r = split Production production bytes d (the p.Name ∷ []) (Seq reopen_last x ∷ gs) refl in
        in_turn (does refl (in_turn (does h (in_turns ((same m h).0 (join Production production bytes r.1 (in_turn_of r.2)))))))

    back : ReadsGo bytes (Seq (tok w) (Seq open_node (Seq (the p.Name) x)) ∷ gs) (inside s) e → ReadsGo bytes (Seq open_node (Seq (tok w) (Seq (the p.Name) (Seq reopen_last x))) ∷ gs) s e
    back (in_turn (does {m = m} h (in_turn (does g (in_turn c))))) =
        let r = split Production production bytes ((same m h).1 (does g c)) (the p.Name ∷ []) (reopen_last ∷ x ∷ gs) refl in
        in_turn (does refl (in_turn (does h (in_turn (join Production production bytes r.1 (in_turn r.2))))))

-- what follows the name of the first type parameter
abbrev behind_first_name : RightSide Production
behind_first_name =
    (tok Comma • the p.Name • many (tok Comma • the p.Name) • the p.Union or the p.ConstraintAfterName)
    • close k.TypeParam • opt (the (p.More TypeParamGroups)) • tok RightBracket • close k.TypeParams • (
    tok Assign • the p.AnyType • close k.GenericAliasSpec or the p.AnyType • close k.GenericTypeSpec
    )

abbrev bracket_type_spec : RightSide Production
bracket_type_spec =
    open_node • tok LeftBracket • (
    tok RightBracket • the p.AnyType • close k.SliceType • close k.TypeSpec
    or tok Ellipsis • tok RightBracket • the p.AnyType • close k.EllipsisArrayType • close k.TypeSpec
    or the p.ExprNoName • array_spec
    or the p.Name • opt (the p.CallOrDot) • the p.Tails • array_spec
    )

bracket_mended : ReadsSame (open_node • tok LeftBracket • production p.TypeSpecBracket) (bracket_type_spec or open_node • tok LeftBracket • the p.Name • reopen_last • behind_first_name)
bracket_mended = λ bytes. same_alternatives Production production bytes none_opened 8 (open_node • tok LeftBracket • production p.TypeSpecBracket) (bracket_type_spec or open_node • tok LeftBracket • the p.Name • reopen_last • behind_first_name) (0 ∷ 1 ∷ 2 ∷ 3 ∷ 4 ∷ 5 ∷ 6 ∷ 7 ∷ 8 ∷ 9 ∷ 10 ∷ 11 ∷ 12 ∷ []) (0 ∷ 1 ∷ 2 ∷ 3 ∷ 4 ∷ 5 ∷ 6 ∷ 7 ∷ 8 ∷ 9 ∷ 10 ∷ 11 ∷ 12 ∷ []) refl refl

bracket_spec : ReadsSame (open_node • tok LeftBracket • the p.TypeSpecBracket) (bracket_type_spec or open_node • tok LeftBracket • open_node • the p.Name • behind_first_name)
bracket_spec = same_trans (same_then (same_then (same_call p.TypeSpecBracket))) (same_trans bracket_mended (same_or (same_refl _) (name_begins LeftBracket behind_first_name)))

abbrev type_spec_opened : RightSide Production
type_spec_opened =
    open_node • the p.Name • (
    tok Assign • the p.AnyType • close k.AliasSpec
    or the p.TypeNoBracket • close k.TypeSpec
    or (bracket_type_spec or open_node • tok LeftBracket • open_node • the p.Name • behind_first_name)
    )

type_spec_mended : ReadsSame type_spec_opened plain_type_spec
type_spec_mended = λ bytes. same_alternatives Production production bytes none_opened 8 (type_spec_opened) (plain_type_spec) (0 ∷ 1 ∷ 5 ∷ 6 ∷ 2 ∷ 3 ∷ 4 ∷ 7 ∷ 11 ∷ 8 ∷ 12 ∷ 9 ∷ 13 ∷ 10 ∷ 14 ∷ []) (0 ∷ 1 ∷ 4 ∷ 5 ∷ 6 ∷ 2 ∷ 3 ∷ 7 ∷ 9 ∷ 11 ∷ 13 ∷ 8 ∷ 10 ∷ 12 ∷ 14 ∷ []) refl refl

pub plain_type_spec_lem : ReadsSame (production p.TypeSpec) plain_type_spec
plain_type_spec_lem = same_trans (same_then (same_then (same_or (same_refl _) (same_or (same_refl _) bracket_spec)))) type_spec_mended
