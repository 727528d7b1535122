-- What rounds keep that tell headers to rules, and why they end.
use Rattle.std.proofs.Common.{◌≡◌, ℕ, zero, suc, ◌<◌, ◌≤◌, Option, Some, None, List, [], ◌∷◌, length, get_or, ◌++◌, ◌⊎◌, refl, sym, ap, ◌∙◌, subst, inl, inr, ⊎_elim, arith}
use Rattle.std.specs.Prelude.{◌==◌, ◌↔◌, true, false, is_some, slice_get, if◌then◌else◌}
use Rattle.std.specs.Map.{lookup}
use Rattle.std.specs.Option.{option_map}
use Rattle.go_base.specs.declared.ids.ObjId.{ObjId}
use Rattle.go_term.specs.Types.{TypeData}
use Rattle.go_term.specs.declared.term.Term.{Term}
use Rattle.go_module.specs.Scopes.{same_object}
use Rattle.go_judge.specs.declared.header.Header.{Header}
use Rattle.std.proofs.lemmas.Bool.{cases_eq, ne_eqb}
use Rattle.go_judge.specs.Naming.{Naming}
use Rattle.go_module.specs.Names.Declarations.{Declaration, number_of}
use Rattle.go_judge.specs.Records.{HeaderData, header_as}
use Rattle.go_judge.specs.Headers.{Headers, headers_of}
use Rattle.go_values.specs.Declared.{declared_as}
use Rattle.go_values.specs.Records.{header_over}
use Rattle.go_values.specs.Headers.{Justified, Follows, Known}
use Rattle.go_judge.specs.Quests.{IsPart}
use Rattle.go_values.proofs.HeaderLemmas.{Follows-part, Follows-same, has_all, headers_of-here, headers_of-there, kept, stays}
use Rattle.go_decl.specs.Places.{ArePlaces}
use Rattle.go_decl.specs.Rounds.{IsBacked, IsSettled, IsToldOrNot, and_open, not_told, open_in, told}
use Rattle.go_decl.proofs.PlaceLemmas.{place_declared}
use Rattle.go_names.specs.declared.declaration.Declaration.{Declaration as OwnDeclaration}
use Rattle.go_names.specs.Views.{declaration_view, declarations_view}

module _ (before : Headers) (naming : Naming) (declarations : List Declaration) (headers : Headers) (b : IsBacked before naming declarations headers) where
  -- what these headers have where a header follows from them
  settled_header : ((d : ℕ) → IsSettled before naming declarations headers d) → (d : ℕ) (h : HeaderData) → Follows before naming declarations headers d h → headers d ≡ Some h
  settled_header s d h g = by_header (headers d) refl
    where
      part : IsPart (headers_of before b.list) headers
      part d' h' q = b.same d' ∙ q

      by_either : (v : HeaderData) → (before d ≡ Some v) ⊎ Follows before naming declarations (headers_of before b.list) d v → v ≡ h
      by_either v (inl was) = absurd (let never : None ≡ Some v = sym g.fresh ∙ was in cc)
      by_either v (inr f) = Follows-same before naming declarations headers d v h (Follows-part before naming declarations (headers_of before b.list) headers part d v f) g

      by_header : (o : Option HeaderData) → headers d ≡ o → headers d ≡ Some h
      by_header None e = absurd (s d h e g)
      by_header (Some v) e = e ∙ ap Some (by_either v (stays before naming declarations b.list b.justified d v (sym (b.same d) ∙ e)))

  -- the rounds are exact
  exact : ((d : ℕ) → IsSettled before naming declarations headers d) → (d : ℕ) (h : HeaderData) → (headers d ≡ Some h) ↔ Known before naming declarations d h
  exact s d h = (
    λ e. record { list = b.list; justified = b.justified; has = sym (b.same d) ∙ e },
    λ k. has_all before naming declarations headers (λ d' h' e. b.same d' ∙ kept before naming declarations b.list b.justified d' h' e) (settled_header s) k.list k.justified d h k.has,
  )

-- headers that are equal one by one are equal
pub all_equal : (a b : Headers) → ((d : ℕ) → a d ≡ b d) → a ≡ b
all_equal a b same = λ i d. same d i

-- one list of pairs after another
headers_of-both : (before : Headers) (list other : List (ℕ × HeaderData)) (d : ℕ) → headers_of (headers_of before list) other d ≡ headers_of before (other ++ list) d
headers_of-both before list [] d = refl
headers_of-both before list (p ∷ other) d = ap (λ (o : Option HeaderData). if p.0 == d then Some p.1 else o) (headers_of-both before list other d)

module _ (before : Headers) (naming : Naming) (declarations : List Declaration) where
  none_before : (list : List (ℕ × HeaderData)) → Justified before naming declarations list → (d : ℕ) → headers_of before list d ≡ None → before d ≡ None
  none_before list j d vacant = by_header (before d) refl
    where
      by_header : (o : Option HeaderData) → before d ≡ o → before d ≡ None
      by_header None e = e
      by_header (Some h) e = absurd (let never : Some h ≡ None = sym (kept before naming declarations list j d h e) ∙ vacant in cc)

  both_justified : (list : List (ℕ × HeaderData)) → Justified before naming declarations list → (other : List (ℕ × HeaderData)) → Justified (headers_of before list) naming declarations other → Justified before naming declarations (other ++ list)
  both_justified list j [] k = j
  both_justified list j (p ∷ other) k =
      let same = all_equal (headers_of (headers_of before list) other) (headers_of before (other ++ list)) (headers_of-both before list other) in (
        both_justified list j other k.0,
        record {
          declaration = k.1.declaration;
          declared = k.1.declared;
          fresh = none_before list j p.0 k.1.fresh;
          tells = subst (λ (m : Headers). header_over naming m k.1.declaration ≡ Some p.1) same k.1.tells;
        },
      )

  -- what is backed by backed headers, with the same meanings, is backed
  pub backed_twice : (mid headers : Headers) (k : Naming) → k ≡ naming → IsBacked before naming declarations mid → IsBacked mid k declarations headers → IsBacked before naming declarations headers
  backed_twice mid headers k is b c =
      let same = all_equal mid (headers_of before b.list) b.same in
      let d : IsBacked (headers_of before b.list) naming declarations headers = subst (λ (m : Headers). IsBacked m naming declarations headers) same (subst (λ (j : Naming). IsBacked mid j declarations headers) is c) in
      record {
        list = d.list ++ b.list;
        justified = both_justified b.list b.justified d.list d.justified;
        same = λ n. d.same n ∙ headers_of-both before b.list d.list n;
      }

  -- headers are backed by themselves
  pub backed_same : (headers : Headers) → headers ≡ before → IsBacked before naming declarations headers
  backed_same headers same = record { list = []; justified = tt; same = λ d i. same i d }

  -- a header that follows may be learnt
  pub backed_one : (headers : Headers) (d : ℕ) (h : HeaderData) (declaration : Declaration) → declared_as declarations d ≡ Some declaration → before d ≡ None → header_over naming before declaration ≡ Some h
      → ((e : ℕ) → headers e ≡ headers_of before ((d, h) ∷ []) e) → IsBacked before naming declarations headers
  backed_one headers d h declaration declared fresh tells same = record {
    list = (d, h) ∷ [];
    justified = (tt, record { declaration = declaration; declared = declared; fresh = fresh; tells = tells });
    same = same;
  }

  -- told or not
  pub backed_either : (headers : Headers) (d : ℕ) (h : HeaderData) (declaration : Declaration) → declared_as declarations d ≡ Some declaration → before d ≡ None → header_over naming before declaration ≡ Some h
      → IsToldOrNot before d h headers → IsBacked before naming declarations headers
  backed_either headers d h declaration declared fresh tells (not_told same) = backed_same headers same
  backed_either headers d h declaration declared fresh tells (told each) = backed_one headers d h declaration declared fresh tells each

  -- settled headers are settled whatever was known before
  pub settled_after : (headers : Headers) (d : ℕ) → IsSettled headers naming declarations headers d → IsSettled before naming declarations headers d
  settled_after headers d s = λ h vacant f. s h vacant (record { declaration = f.declaration; declared = f.declared; fresh = vacant; tells = f.tells })

  pub exact_after : (headers : Headers) → IsBacked before naming declarations headers → ((d : ℕ) → IsSettled headers naming declarations headers d) → (d : ℕ) (h : HeaderData) → (headers d ≡ Some h) ↔ Known before naming declarations d h
  exact_after headers b s = exact before naming declarations headers b (λ d. settled_after headers d (s d))

-- equal headers are backed by equal declarations
pub backed_as : {before : Headers} {naming : Naming} {declarations others : List Declaration} {headers same : Headers} → declarations ≡ others → same ≡ headers → IsBacked before naming declarations headers → IsBacked before naming others same
backed_as {before} {naming} {declarations} {others} {headers} {same} are is b = subst (λ (ds : List Declaration). IsBacked before naming ds same) are (subst (IsBacked before naming declarations) (sym is) b)

-- a declaration whose header does not follow is settled
pub settled_none : (headers : Headers) (naming : Naming) (declarations : List Declaration) (d : ℕ) (declaration : Declaration) → declared_as declarations d ≡ Some declaration → header_over naming headers declaration ≡ None → IsSettled headers naming declarations headers d
settled_none headers naming declarations d declaration declared none = λ h vacant f.
    let same : f.declaration ≡ declaration = cc (f.declared, declared) in
    let tells : header_over naming headers declaration ≡ Some h = subst (λ (x : Declaration). header_over naming headers x ≡ Some h) same f.tells in
    cc

-- the count goes down when a header is learnt
open_same : (o : Option HeaderData) (n m : ℕ) → n ≤ m → and_open o n ≤ and_open o m
open_same None n m le = omega arith
open_same (Some h) n m le = le

open_less : (o : Option HeaderData) (n m : ℕ) → n < m → and_open o n < and_open o m
open_less None n m lt = omega arith
open_less (Some h) n m lt = lt

open_more : (o : Option HeaderData) (n m : ℕ) → n ≤ m → n ≤ and_open o m
open_more None n m le = omega arith
open_more (Some h) n m le = le

module _ (before after : Headers) (d : ℕ) (h : HeaderData) (same : (e : ℕ) → after e ≡ headers_of before ((d, h) ∷ []) e) where
  here : (e : ℕ) → d ≡ e → after e ≡ Some h
  here e is = same e ∙ headers_of-here before (d, h) [] e is

  there : (e : ℕ) → (d ≡ e → ⊥) → after e ≡ before e
  there e ne = same e ∙ headers_of-there before (d, h) [] e ne

  no_more_open : (declarations : List Declaration) → open_in after declarations ≤ open_in before declarations
  no_more_open [] = omega arith
  no_more_open (x ∷ xs) =
      let rest = no_more_open xs in
      let n = open_in after xs in
      let m = open_in before xs in
      ⊎_elim
      (λ is. subst (λ (o : Option HeaderData). and_open o n ≤ and_open (before (number_of x).0) m) (sym (here (number_of x).0 is)) (open_more (before (number_of x).0) n m rest))
      (λ ne. subst (λ (o : Option HeaderData). and_open o n ≤ and_open (before (number_of x).0) m) (sym (there (number_of x).0 ne)) (open_same (before (number_of x).0) n m rest))
      (cases_eq d (number_of x).0)

  pub fewer_open : (declarations : List Declaration) (declaration : Declaration) → declared_as declarations d ≡ Some declaration → before d ≡ None → open_in after declarations < open_in before declarations
  fewer_open [] declaration e fresh = absurd (let never : None ≡ Some declaration = e in cc)
  fewer_open (x ∷ xs) declaration e fresh =
      let n = open_in after xs in
      let m = open_in before xs in
      ⊎_elim
      (λ is. let le : n ≤ m = no_more_open xs in
      let lt : n < suc m = omega (arith, le) in
      let vacant : before (number_of x).0 ≡ None = ap before (sym is) ∙ fresh in
      subst (λ (o : Option HeaderData). and_open o n < and_open (before (number_of x).0) m) (sym (here (number_of x).0 is))
      (subst (λ (o : Option HeaderData). n < and_open o m) (sym vacant) lt))
      (λ ne. let later : declared_as xs d ≡ Some declaration = sym (declared_later x xs ne) ∙ e in
      subst (λ (o : Option HeaderData). and_open o n < and_open (before (number_of x).0) m) (sym (there (number_of x).0 ne)) (open_less (before (number_of x).0) n m (fewer_open xs declaration later fresh)))
      (cases_eq d (number_of x).0)
    where
      declared_later : (x : Declaration) (xs : List Declaration) → (d ≡ (number_of x).0 → ⊥) → declared_as (x ∷ xs) d ≡ declared_as xs d
      declared_later x xs ne = rw (ne_eqb (number_of x).0 d (λ is. ne (sym is))) refl

-- the declaration at the place of a number is the one that the number names
pub record IsAt (declarations : List Declaration) (d : ObjId) (declaration : Declaration) : Type 0 where
  pub number : number_of declaration ≡ d
  pub declared : declared_as declarations d.0 ≡ Some declaration

pub at_place : (declarations : List Declaration) (entries : List (ObjId × ℕ)) → ArePlaces declarations entries → (d : ObjId) (place : ℕ) → lookup (same_object d) entries ≡ Some place
    → (declaration : Declaration) → slice_get declarations place ≡ Some declaration → IsAt declarations d declaration
at_place declarations entries places d place e declaration at =
    let placed = place_declared declarations d place (sym (places d) ∙ e) in
    let one : placed.declaration ≡ declaration = cc (placed.at, at) in
    record { number = ap number_of (sym one) ∙ placed.number; declared = placed.declared ∙ ap Some one }

-- the constant at a place
pub declared_at : (list : List OwnDeclaration) (d : ℕ) (c : OwnDeclaration) → d < length list → c ≡ get_or list d c → slice_get (declarations_view list) d ≡ Some (declaration_view c)
declared_at [] d c lt e = absurd (omega arith)
declared_at (x ∷ list) zero c lt e = ap (λ (y : OwnDeclaration). Some (declaration_view y)) (sym e)
declared_at (x ∷ list) (suc d) c lt e = declared_at list d c (omega arith) e

-- what is there, and what is not
pub is_known : (x : Option HeaderData) → is_some x ≡ true → x ≡ None → ⊥
is_known None some e = let never : false ≡ true = some in cc
is_known (Some h) some e = cc

pub is_vacant : (x : Option HeaderData) → is_some x ≡ false → x ≡ None
is_vacant None none = refl
is_vacant (Some h) none = absurd (let never : true ≡ false = none in cc)

-- what is found of a declaration over the same headers with the same meanings is found over these
pub found_over : (tree : Term → TypeData) (naming k : Naming) (headers m : Headers) (declaration : Declaration) (o x : Option Header) → k ≡ naming → m ≡ headers → option_map (header_as tree) o ≡ header_over k m declaration → o ≡ x → header_over naming headers declaration ≡ option_map (header_as tree) x
found_over tree naming k headers m declaration o x same kept found is = (λ i. header_over (sym same i) (sym kept i) declaration) ∙ sym found ∙ ap (option_map (header_as tree)) is

pub learnt_over : (headers m after : Headers) (d : ℕ) (h : HeaderData) → m ≡ headers → ((e : ℕ) → after e ≡ headers_of m ((d, h) ∷ []) e) → (e : ℕ) → after e ≡ headers_of headers ((d, h) ∷ []) e
learnt_over headers m after d h kept learnt e = learnt e ∙ ap (λ (k : Headers). headers_of k ((d, h) ∷ []) e) kept
