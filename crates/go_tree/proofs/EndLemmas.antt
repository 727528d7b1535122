-- With which tokens what is read can end.
use Rattle.std.proofs.Common.{◌≡◌, ℕ, Bool, true, false, List, [], ◌∷◌, ◌++◌, refl, ap, sym, ◌∙◌, cond, None, Some, ◌||◌, ◌&&◌, eq-eqb, ◌⊎◌, inl, inr, ⊎_elim}
use Rattle.go_tree.specs.declared.token.Token.{Token}
use Rattle.go_tree.specs.declared.token.TokenKind.{TokenKind}
use Rattle.go_tree.specs.Grammar.RightSide.{RightSide, Do, Call, Nothing, Seq, Or, Many, When, Act, Pass, Open, Reopen, Adopt, CheckType, Close}
use Rattle.go_tree.specs.Grammar.Tables.TokenKinds.{same_kind, code}
use Rattle.go_tree.specs.Grammar.Trees.Reading.{State, OpenNode, Reads, at_end, does, calls, nothing, in_turn, left, right, done, again, chosen, passed_by, acted, passed}
use Rattle.go_tree.specs.Grammar.Tables.Prediction.{Tables, is_empty, AreRight}
use Rattle.go_tree.proofs.CompletionLemmas.{same_code}
use Rattle.go_tree.proofs.EmptyLemmas.{series_empty, rest_kept, empty_read}

abbrev act_ends : TokenKind → Act → Bool
act_ends i (Pass k) = same_kind k i
act_ends i _ = false

-- whether g can end with a token of that kind, where no production ends with one
abbrev pub ends_with : {N : Type 0} → Tables N → TokenKind → RightSide N → Bool
ends_with T i (Do a) = act_ends i a
ends_with T i (Call n) = false
ends_with T i Nothing = false
ends_with T i (Seq g h) = ends_with T i h || (is_empty T h && ends_with T i g)
ends_with T i (Or g h) = ends_with T i g || ends_with T i h
ends_with T i (Many g) = ends_with T i g
ends_with T i (When a g h) = ends_with T i g || ends_with T i h

-- whether these, one after another, can
abbrev pub series_ends : {N : Type 0} → Tables N → TokenKind → List (RightSide N) → Bool
series_ends T i [] = false
series_ends T i (g ∷ gs) = series_ends T i gs || (series_empty T gs && ends_with T i g)

later_ends : (a b : Bool) → (a || b) ≡ false → a ≡ false
later_ends true b h = cc
later_ends false b h = refl

call_ends : (a b c : Bool) → (a || (b && false)) ≡ false → c ≡ false → (a || (b && c)) ≡ false
call_ends true b c h q = h
call_ends false true c h q = q
call_ends false false c h q = h

-- a: the later ones end so, e: they are empty; b, c: h and g end so, d: h is empty
turn_ends : (a e b d c : Bool) → (a || (e && (b || (d && c)))) ≡ false → ((a || (e && b)) || ((d && e) && c)) ≡ false
turn_ends true e b d c h = cc
turn_ends false true true d c h = cc
turn_ends false true false true c h = h
turn_ends false true false false c h = h
turn_ends false false b true c h = refl
turn_ends false false b false c h = refl

left_ends : (a e b c : Bool) → (a || (e && (b || c))) ≡ false → (a || (e && b)) ≡ false
left_ends true e b c h = cc
left_ends false true true c h = cc
left_ends false true false c h = refl
left_ends false false b c h = refl

right_ends : (a e b c : Bool) → (a || (e && (b || c))) ≡ false → (a || (e && c)) ≡ false
right_ends true e b c h = cc
right_ends false true true c h = cc
right_ends false true false c h = h
right_ends false false b c h = refl

again_ends : (a e b : Bool) → (a || (e && b)) ≡ false → ((a || (e && b)) || (e && b)) ≡ false
again_ends true e b h = cc
again_ends false true true h = cc
again_ends false true false h = refl
again_ends false false b h = refl

nothing_left : (front : List Token) (t : Token) → [] ≡ front ++ (t ∷ []) → ⊥
nothing_left [] t h = cc
nothing_left (u ∷ front) t h = cc

-- a token that is passed is the last, or one of those before it
pass_one : (k : TokenKind) (r : List Token) (fs : List OpenNode) (m : State) (front : List Token) (t : Token) → r ≡ front ++ (t ∷ []) → passed k r fs ≡ Some m → ((m.rest ≡ []) × (same_kind k t.kind ≡ true)) ⊎ ((later : List Token) × (m.rest ≡ later ++ (t ∷ [])))
pass_one k r fs m [] t q h = go (same_kind k t.kind) refl (sym (ap (λ x. passed k x fs) q) ∙ h)
  where
    go : (b : Bool) → same_kind k t.kind ≡ b → cond b (Some (record { last = t.end; rest = []; open_nodes = fs })) None ≡ Some m → ((m.rest ≡ []) × (same_kind k t.kind ≡ true)) ⊎ ((later : List Token) × (m.rest ≡ later ++ (t ∷ [])))
    go true e h = inl (cc, e)
    go false e h = cc
pass_one k r fs m (u ∷ front) t q h = go (same_kind k u.kind) (sym (ap (λ x. passed k x fs) q) ∙ h)
  where
    go : (b : Bool) → cond b (Some (record { last = u.end; rest = front ++ (t ∷ []); open_nodes = fs })) None ≡ Some m → ((m.rest ≡ []) × (same_kind k t.kind ≡ true)) ⊎ ((later : List Token) × (m.rest ≡ later ++ (t ∷ [])))
    go true h = inr (front, cc)
    go false h = cc

module _ (N : Type 0) (P : N → RightSide N) (bytes : List ℕ) (T : Tables N) (right_tables : AreRight N P T) (i : TokenKind) (none : (n : N) → ends_with T i (P n) ≡ false) where
  -- nothing that these read ends with the token
  abbrev pub Never : List (RightSide N) → State → State → Type 0
  Never gs s e = series_ends T i gs ≡ false → e.rest ≡ [] → (front : List Token) (t : Token) → s.rest ≡ front ++ (t ∷ []) → same_kind i t.kind ≡ true → ⊥

  act_never : (a : Act) (gs : List (RightSide N)) (s m e : State) → acted bytes a s ≡ Some m → Reads N P bytes gs m e → Never gs m e → Never (Do a ∷ gs) s e
  act_never (Pass k) gs s m e h d later o z front t q w = ⊎_elim (λ x. last x.0 x.1) (λ x. later (later_ends (series_ends T i gs) _ o) z x.0 t x.1 w) (pass_one k s.rest s.open_nodes m front t q h)
    where
      no_end : (a b c : Bool) → (a || (b && c)) ≡ false → b ≡ true → c ≡ true → ⊥
      no_end true b c h p q = cc
      no_end false true true h p q = cc
      no_end false true false h p q = cc
      no_end false false c h p q = cc

      last : m.rest ≡ [] → same_kind k t.kind ≡ true → ⊥
      last r y = no_end (series_ends T i gs) (series_empty T gs) (same_kind k i) o (empty_read N P bytes T right_tables d r) (eq-eqb (code k) (code i) (same_code k t.kind y ∙ sym (same_code i t.kind w)))
  act_never Open gs s m e h d later o z front t q w = later (later_ends (series_ends T i gs) _ o) z front t (rest_kept bytes Open s m refl h ∙ q) w
  act_never Reopen gs s m e h d later o z front t q w = later (later_ends (series_ends T i gs) _ o) z front t (rest_kept bytes Reopen s m refl h ∙ q) w
  act_never Adopt gs s m e h d later o z front t q w = later (later_ends (series_ends T i gs) _ o) z front t (rest_kept bytes Adopt s m refl h ∙ q) w
  act_never CheckType gs s m e h d later o z front t q w = later (later_ends (series_ends T i gs) _ o) z front t (rest_kept bytes CheckType s m refl h ∙ q) w
  act_never (Close k) gs s m e h d later o z front t q w = later (later_ends (series_ends T i gs) _ o) z front t (rest_kept bytes (Close k) s m refl h ∙ q) w

  pub never_ends : {gs : List (RightSide N)} {s e : State} → Reads N P bytes gs s e → Never gs s e
  never_ends at_end o z front t q w = nothing_left front t (sym z ∙ q)
  never_ends (does {a = a} {gs = gs} {s = s} {m = m} {e = e} h d) o z front t q w = act_never a gs s m e h d (never_ends d) o z front t q w
  never_ends (calls {n = n} {gs = gs} d) o z front t q w = never_ends d (call_ends (series_ends T i gs) (series_empty T gs) (ends_with T i (P n)) o (none n)) z front t q w
  never_ends (nothing {gs = gs} d) o z front t q w = never_ends d (later_ends (series_ends T i gs) _ o) z front t q w
  never_ends (in_turn {g = g} {h = h} {gs = gs} d) o z front t q w = never_ends d (turn_ends (series_ends T i gs) (series_empty T gs) (ends_with T i h) (is_empty T h) (ends_with T i g) o) z front t q w
  never_ends (left {g = g} {h = h} {gs = gs} d) o z front t q w = never_ends d (left_ends (series_ends T i gs) (series_empty T gs) (ends_with T i g) (ends_with T i h) o) z front t q w
  never_ends (right {g = g} {h = h} {gs = gs} d) o z front t q w = never_ends d (right_ends (series_ends T i gs) (series_empty T gs) (ends_with T i g) (ends_with T i h) o) z front t q w
  never_ends (chosen {g = g} {h = h} {gs = gs} p d) o z front t q w = never_ends d (left_ends (series_ends T i gs) (series_empty T gs) (ends_with T i g) (ends_with T i h) o) z front t q w
  never_ends (passed_by {g = g} {h = h} {gs = gs} p d) o z front t q w = never_ends d (right_ends (series_ends T i gs) (series_empty T gs) (ends_with T i g) (ends_with T i h) o) z front t q w
  never_ends (done {gs = gs} d) o z front t q w = never_ends d (later_ends (series_ends T i gs) _ o) z front t q w
  never_ends (again {g = g} {gs = gs} d) o z front t q w = never_ends d (again_ends (series_ends T i gs) (series_empty T gs) (ends_with T i g) o) z front t q w
