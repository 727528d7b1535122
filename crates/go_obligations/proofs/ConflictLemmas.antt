-- The firsts of names among methods, and methods that differ from them.
use Rattle.std.proofs.Common.{◌≡◌, ℕ, zero, suc, ◌+◌, ◌<◌, ◌≤◌, Bool, true, false, cond, not, ◌&&◌, ◌||◌, List, [], ◌∷◌, Contains, Option, None, Some, drop, get_or, length, map, refl, sym, ap, ◌∙◌, subst, true≢false, add-one, drop-cons, arith}
use Rattle.std.specs.Prelude.{◌↔◌, ◌==◌, nat_lt, slice_get}
use Rattle.std.specs.List.{list_any}
use Rattle.std.specs.Option.{option_map, option_map_or}
use Rattle.std.proofs.lemmas.Bool.{eqb-true, eq-eqb}
use Rattle.std.proofs.lemmas.Bool.Decides.{nat_tests}
use Rattle.std.proofs.lemmas.List.Folds.{Any-from_list_any, list_any-from_Any}
use Rattle.std.proofs.lemmas.Option.{get_or_from_slice_get, slice_get-get_or, slice_get-map, slice_get_within}
use Rattle.std.proofs.lemmas.Slice.Eq.{bytes_eq-Decides}
use Rattle.go_term.specs.Types.{TypeData}
use Rattle.go_term.specs.declared.term.Term.{Term}
use Rattle.go_module.specs.Modules.Paths.{same_text}
use Rattle.go_model.specs.Obligations.Methods.{Gets, GetsTwo, OwnMethod, same_name, signature_of}
use Rattle.go_judge.specs.Headers.{Headers}
use Rattle.go_judge.specs.Types.Own.{KeepsTypes}
use Rattle.go_judge.specs.Types.TypeIdentity.{identical}
use Rattle.go_judge.specs.Quests.{Asked, Decided, Lacks, run}
use Rattle.go_obligations.specs.Conflicts.{AreInConflict, ConflictsAt, conflicts, differ, differs_from_any, is_further, is_no}
use Rattle.go_obligations.specs.Firsts.{AreFirsts, IsFirst, IsFirstOf, Key, first_by, is_declared_before, key_of, same_key}
use Rattle.go_obligations.specs.Methods.{AreOwnMethods, IsOwnMethod, method_view}
use Rattle.go_obligations.specs.declared.methods.Method.{Method}

-- TRUTHS AND LISTS

both_true : (a b : Bool) → (a && b) ≡ true → (a ≡ true) × (b ≡ true)
both_true true b e = (refl, e)
both_true false b e = absurd (true≢false (sym e))

neither : (a b : Bool) → (a || b) ≡ false → (a ≡ false) × (b ≡ false)
neither false b e = (refl, e)
neither true b e = absurd (true≢false e)

stands : {X : Type 0} (xs : List X) (i : ℕ) (x : X) → slice_get xs i ≡ Some x → Contains xs x
stands xs i x at = (i, slice_get_within xs i x at, get_or_from_slice_get xs i x x at)

stands_at : {X : Type 0} (xs : List X) (x : X) (has : Contains xs x) → slice_get xs has.0 ≡ Some x
stands_at xs x has = slice_get-get_or xs has.0 x has.1 ∙ ap Some has.2

one_at : {X : Type 0} (xs : List X) (i : ℕ) (x y : X) → slice_get xs i ≡ Some x → slice_get xs i ≡ Some y → x ≡ y
one_at xs i x y at also = let same : Some x ≡ Some y = sym at ∙ also in cc

one_there : {X : Type 0} (xs : List X) (i : ℕ) → i < length xs → (x : X) × (slice_get xs i ≡ Some x)
one_there [] i lt = absurd (omega (arith, lt))
one_there (x ∷ xs) zero lt = (x, refl)
one_there (x ∷ xs) (suc i) lt = one_there xs i (omega (arith, lt))

-- NAMES

pub same_key_is : (a b : Key) → same_key a b ≡ true → a ≡ b
same_key_is a b e =
    let parts = both_true _ _ e in
    let names = (bytes_eq-Decides a.0 b.0).0 parts.0 in
    let homes = (bytes_eq-Decides a.1 b.1).0 parts.1 in
    λ i. (names i, homes i)

pub is_same_key : (a b : Key) → a ≡ b → same_key a b ≡ true
is_same_key a b e =
    let names = (bytes_eq-Decides a.0 b.0).1 (ap (λ (k : Key). k.0) e) in
    let homes = (bytes_eq-Decides a.1 b.1).1 (ap (λ (k : Key). k.1) e) in
    ap (λ t. t && same_text a.1 b.1) names ∙ homes

other_key : (a b : Key) → same_key a b ≡ false → a ≡ b → ⊥
other_key a b apart same = true≢false (sym (is_same_key a b same) ∙ apart)

-- FIRSTS

module _ (methods : List Method) (i : ℕ) (m : Method) (at : slice_get methods i ≡ Some m) where
  -- an order that holds below a place and at it
  upto : (q : Key) (n : ℕ) → ((j : ℕ) (x : Method) → j < i → slice_get methods j ≡ Some x → key_of x ≡ q → n ≤ x.object.0) → (key_of m ≡ q → n ≤ m.object.0)
      → (j : ℕ) (x : Method) → j < i + 1 → slice_get methods j ≡ Some x → key_of x ≡ q → n ≤ x.object.0
  upto q n below here j x lt at' named = by_place (j == i) refl
    where
      by_place : (b : Bool) → (j == i) ≡ b → n ≤ x.object.0
      by_place true e =
          let same : m ≡ x = one_at methods j m x (ap (slice_get methods) (eqb-true j i e) ∙ at) at' in
          subst (λ (y : Method). n ≤ y.object.0) same (here (ap key_of same ∙ named))
      by_place false e = let less : j < i = grind (arith, nat_tests) in below j x less at' named

  none_upto : (q : Key) → ((j : ℕ) (x : Method) → j < i → slice_get methods j ≡ Some x → key_of x ≡ q → ⊥) → (key_of m ≡ q → ⊥)
      → (j : ℕ) (x : Method) → j < i + 1 → slice_get methods j ≡ Some x → key_of x ≡ q → ⊥
  none_upto q below here j x lt at' named = by_place (j == i) refl
    where
      by_place : (b : Bool) → (j == i) ≡ b → ⊥
      by_place true e =
          let same : m ≡ x = one_at methods j m x (ap (slice_get methods) (eqb-true j i e) ∙ at) at' in
          here (ap key_of same ∙ named)
      by_place false e = let less : j < i = grind (arith, nat_tests) in below j x less at' named

  -- the first of another name stays
  stays_first : (q : Key) → (key_of m ≡ q → ⊥) → (o : Option ℕ) → IsFirstOf methods i q o → IsFirstOf methods (i + 1) q o
  stays_first q apart None none = none_upto q none apart
  stays_first q apart (Some p) r = record { first = r.first; at = r.at; named = r.named; least = upto q r.first.object.0 r.least (λ e. absurd (apart e)) }

  -- the method is the first of its name
  becomes_first : (q : Key) → key_of m ≡ q → (o : Option ℕ) → IsFirstOf methods i q o → is_declared_before methods m o ≡ true → IsFirst methods (i + 1) q i
  becomes_first q named None none before = record {
    first = m;
    at = at;
    named = named;
    least = upto q m.object.0 (λ j x lt at' e. absurd (none j x lt at' e)) (λ e. (let le : m.object.0 ≤ m.object.0 = omega arith in le));
  }
  becomes_first q named (Some p) r before =
      let less : nat_lt m.object.0 r.first.object.0 ≡ true = sym (ap (λ (o : Option Method). option_map_or (λ f. nat_lt m.object.0 f.object.0) o true) r.at) ∙ before in
      record {
        first = m;
        at = at;
        named = named;
        least = upto q m.object.0 (λ j x lt at' e. (let le : r.first.object.0 ≤ x.object.0 = r.least j x lt at' e in let le' : m.object.0 ≤ x.object.0 = grind (arith, nat_tests) in le')) (λ e. (let le : m.object.0 ≤ m.object.0 = omega arith in le));
      }

  -- the first so far is that of the method too
  remains_first : (q : Key) → (o : Option ℕ) → IsFirstOf methods i q o → is_declared_before methods m o ≡ false → IsFirstOf methods (i + 1) q o
  remains_first q None none behind = absurd (true≢false behind)
  remains_first q (Some p) r behind =
      let less : nat_lt m.object.0 r.first.object.0 ≡ false = sym (ap (λ (o : Option Method). option_map_or (λ f. nat_lt m.object.0 f.object.0) o true) r.at) ∙ behind in
      record { first = r.first; at = r.at; named = r.named; least = upto q r.first.object.0 r.least (λ e. (let le : r.first.object.0 ≤ m.object.0 = grind (arith, nat_tests) in le)) }

  pub first_added : (es es' : List (Key × ℕ)) → ((q : Key) → first_by es' q ≡ cond (same_key (key_of m) q) (Some i) (first_by es q)) → is_declared_before methods m (first_by es (key_of m)) ≡ true
      → AreFirsts methods i es → AreFirsts methods (i + 1) es'
  first_added es es' added before firsts q = subst (IsFirstOf methods (i + 1) q) (sym (added q)) (by_key (same_key (key_of m) q) refl)
    where
      by_key : (b : Bool) → same_key (key_of m) q ≡ b → IsFirstOf methods (i + 1) q (cond b (Some i) (first_by es q))
      by_key true e =
          let named = same_key_is (key_of m) q e in
          becomes_first q named (first_by es q) (firsts q) (subst (λ (k : Key). is_declared_before methods m (first_by es k) ≡ true) named before)
      by_key false e = stays_first q (other_key (key_of m) q e) (first_by es q) (firsts q)

  pub first_kept : (es : List (Key × ℕ)) → is_declared_before methods m (first_by es (key_of m)) ≡ false → AreFirsts methods i es → AreFirsts methods (i + 1) es
  first_kept es behind firsts q = by_key (same_key (key_of m) q) refl
    where
      by_key : (b : Bool) → same_key (key_of m) q ≡ b → IsFirstOf methods (i + 1) q (first_by es q)
      by_key true e = remains_first q (first_by es q) (firsts q) (subst (λ (k : Key). is_declared_before methods m (first_by es k) ≡ false) (same_key_is (key_of m) q e) behind)
      by_key false e = stays_first q (other_key (key_of m) q e) (first_by es q) (firsts q)

-- METHODS THAT DIFFER

-- what is asked last settles the answer
pub asked_last : (a f x : Bool) → a ≡ false → f ≡ true → x ≡ (a || (f && x))
asked_last false true x e on = refl
asked_last false false x e on = absurd (true≢false (sym on))
asked_last true f x e on = absurd (true≢false e)

-- what is asked of the method at a place and of the first of its name
pub asked_at : (apart : Method → Method → Bool) (ms : List Method) (es : List (Key × ℕ)) (i a : ℕ) (mi fa : Method) → i < length ms → mi ≡ get_or ms i mi → a < length ms → fa ≡ get_or ms a fa
    → ((m : Method) → slice_get ms i ≡ Some m → first_by es (key_of m) ≡ Some a) → (truth : Bool) → truth ≡ conflicts apart ms fa (is_further a fa i mi) mi → ConflictsAt apart ms es i truth
asked_at apart ms es i a mi fa lt at lt' at' known truth says m first place here found there =
    let same : mi ≡ m = one_at ms i mi m (slice_get-get_or ms i mi lt ∙ ap Some (sym at)) here in
    let placed : a ≡ place = (let e : Some a ≡ Some place = sym (known m here) ∙ found in cc) in
    let firsts : fa ≡ first = one_at ms place fa first (ap (slice_get ms) (sym placed) ∙ slice_get-get_or ms a fa lt' ∙ ap Some (sym at')) there in
    says ∙ (λ k. conflicts apart ms (firsts k) (is_further (placed k) (firsts k) i (same k)) (same k))

-- what is found of the name of a method that stands among the methods
pub record HasFirst (methods : List Method) (es : List (Key × ℕ)) (key : Key) : Type 0 where
  pub place : ℕ
  pub found : first_by es key ≡ Some place
  pub is : IsFirst methods (length methods) key place

module _ (methods : List Method) (es : List (Key × ℕ)) (firsts : AreFirsts methods (length methods) es) where
  pub has_first : (i : ℕ) (m : Method) → slice_get methods i ≡ Some m → HasFirst methods es (key_of m)
  has_first i m at = by_found (first_by es (key_of m)) refl (firsts (key_of m))
    where
      by_found : (o : Option ℕ) → first_by es (key_of m) ≡ o → IsFirstOf methods (length methods) (key_of m) o → HasFirst methods es (key_of m)
      by_found None e none = absurd (none i m (slice_get_within methods i m at) at refl)
      by_found (Some p) e is = record { place = p; found = e; is = is }

  module _ (apart : Method → Method → Bool) where
    from_first : (m : Method) → Contains methods m → (p : ℕ) → (r : IsFirst methods (length methods) (key_of m) p) → apart r.first m ≡ true → AreInConflict apart methods
    from_first m has p r differing = record {
      first = r.first;
      other = m;
      has_first = stands methods p r.first r.at;
      has_other = has;
      named_alike = r.named;
      is_first = λ x among named. r.least among.0 x among.1 (stands_at methods x among) (sym named ∙ r.named);
      differing = differing;
    }

    from_further : (m : Method) → Contains methods m → (p : ℕ) → (r : IsFirst methods (length methods) (key_of m) p) → m.object.0 ≡ r.first.object.0 → differs_from_any apart methods m ≡ true → AreInConflict apart methods
    from_further m has p r same any =
        let found = Any-from_list_any (λ o. same_key (key_of m) (key_of o) && apart m o) methods any in
        let parts = both_true (same_key (key_of m) (key_of found.1)) (apart m found.1) found.4 in
        record {
          first = m;
          other = found.1;
          has_first = has;
          has_other = (found.0, found.2, found.3);
          named_alike = same_key_is (key_of m) (key_of found.1) parts.0;
          is_first = λ x among named. (let le : r.first.object.0 ≤ x.object.0 = r.least among.0 x among.1 (stands_at methods x among) (sym named) in let le' : m.object.0 ≤ x.object.0 = omega arith in le');
          differing = parts.1;
        }

    pub conflict_found : (i : ℕ) → i < length methods → ConflictsAt apart methods es i true → AreInConflict apart methods
    conflict_found i lt says = by_first (apart r.first m) refl
      where
        m : Method
        m = (one_there methods i lt).0

        at : slice_get methods i ≡ Some m
        at = (one_there methods i lt).1

        known : HasFirst methods es (key_of m)
        known = has_first i m at

        r : IsFirst methods (length methods) (key_of m) known.place
        r = known.is

        all : true ≡ conflicts apart methods r.first (is_further known.place r.first i m) m
        all = says m r.first known.place at known.found r.at

        by_first : (b : Bool) → apart r.first m ≡ b → AreInConflict apart methods
        by_first true e = from_first m (stands methods i m at) known.place r e
        by_first false e =
            let rest = both_true (is_further known.place r.first i m) (differs_from_any apart methods m) (sym (all ∙ ap (λ b. b || (is_further known.place r.first i m && differs_from_any apart methods m)) e)) in
            let further = both_true (not (i == known.place)) (m.object.0 == r.first.object.0) rest.0 in
            from_further m (stands methods i m at) known.place r (eqb-true m.object.0 r.first.object.0 further.1) rest.1

    pub conflict_none : ((i : ℕ) → i < length methods → ConflictsAt apart methods es i false) → AreInConflict apart methods → ⊥
    conflict_none none c = by_place (i == p) refl
      where
        i : ℕ
        i = c.has_first.0

        at : slice_get methods i ≡ Some c.first
        at = stands_at methods c.first c.has_first

        known : HasFirst methods es (key_of c.first)
        known = has_first i c.first at

        p : ℕ
        p = known.place

        r : IsFirst methods (length methods) (key_of c.first) p
        r = known.is

        by_place : (b : Bool) → (i == p) ≡ b → ⊥
        by_place true e =
            let same : r.first ≡ c.first = one_at methods p r.first c.first r.at (ap (slice_get methods) (sym (eqb-true i p e)) ∙ at) in
            let found : first_by es (key_of c.other) ≡ Some p = ap (first_by es) (sym c.named_alike) ∙ known.found in
            let says = none c.has_other.0 c.has_other.1 c.other r.first p (stands_at methods c.other c.has_other) found r.at in
            let one = neither (apart r.first c.other) _ (sym says) in
            true≢false (sym c.differing ∙ ap (λ f. apart f c.other) (sym same) ∙ one.0)
        by_place false e =
            let le : r.first.object.0 ≤ c.first.object.0 = r.least i c.first c.has_first.1 at refl in
            let ge : c.first.object.0 ≤ r.first.object.0 = c.is_first r.first (stands methods p r.first r.at) (sym r.named) in
            let equal : (c.first.object.0 == r.first.object.0) ≡ true = eq-eqb c.first.object.0 r.first.object.0 (omega arith) in
            let further : is_further p r.first i c.first ≡ true = ap (λ b. not b && (c.first.object.0 == r.first.object.0)) e ∙ equal in
            let says = none i c.has_first.1 c.first r.first p at known.found r.at in
            let rest = neither (apart r.first c.first) (is_further p r.first i c.first && differs_from_any apart methods c.first) (sym says) in
            let named = is_same_key (key_of c.first) (key_of c.other) c.named_alike in
            let passes : (same_key (key_of c.first) (key_of c.other) && apart c.first c.other) ≡ true = ap (λ b. b && apart c.first c.other) named ∙ c.differing in
            let any : differs_from_any apart methods c.first ≡ true =
            list_any-from_Any (λ o. same_key (key_of c.first) (key_of o) && apart c.first o) methods (c.has_other.0, c.other, c.has_other.1, c.has_other.2, passes) in
            true≢false (sym any ∙ sym (ap (λ b. b && differs_from_any apart methods c.first) further) ∙ rest.1)

-- OVER A JUDGE

no_is : (a : Asked Bool) → is_no a ≡ true → a ≡ Decided false
no_is (Decided true) e = absurd (true≢false (sym e))
no_is (Decided false) e = refl
no_is (Lacks d) e = absurd (true≢false (sym e))

module _ {own own' : Term → Type 0} {tree tree' : Term → TypeData} (kept : KeepsTypes own own' tree tree') (headers headers' : Headers) (same : headers' ≡ headers) where
  pub differ_kept : (a b : Method) → own a.signature → own b.signature → differ headers' tree' a b ≡ differ headers tree a b
  differ_kept a b first second =
      ap (λ (h : Headers). is_no (run h (identical (tree' a.signature) (tree' b.signature)))) same
      ∙ ap (λ t. is_no (run headers (identical t (tree' b.signature)))) (kept.trees a.signature first)
      ∙ ap (λ t. is_no (run headers (identical (tree a.signature) t))) (kept.trees b.signature second)

  any_kept_in : (key : Key → Bool) (m : Method) → own m.signature → (ms : List Method) → AreOwnMethods own tree ms
      → list_any (λ o. key (key_of o) && differ headers' tree' m o) ms ≡ list_any (λ o. key (key_of o) && differ headers tree m o) ms
  any_kept_in key m is [] all = refl
  any_kept_in key m is (o ∷ os) all =
      ap (λ b. (key (key_of o) && b) || list_any (λ x. key (key_of x) && differ headers' tree' m x) os) (differ_kept m o is all.0.0)
      ∙ ap (λ b. (key (key_of o) && differ headers tree m o) || b) (any_kept_in key m is os all.1)

  pub any_kept : (m : Method) → own m.signature → (ms : List Method) → AreOwnMethods own tree ms → differs_from_any (differ headers' tree') ms m ≡ differs_from_any (differ headers tree) ms m
  any_kept m is ms all = any_kept_in (same_key (key_of m)) m is ms all

  pub conflicts_kept : (ms : List Method) → AreOwnMethods own tree ms → (first m : Method) → own first.signature → own m.signature → (further : Bool)
      → conflicts (differ headers' tree') ms first further m ≡ conflicts (differ headers tree) ms first further m
  conflicts_kept ms all first m one two further =
      ap (λ b. b || (further && differs_from_any (differ headers' tree') ms m)) (differ_kept first m one two)
      ∙ ap (λ b. differ headers tree first m || (further && b)) (any_kept m two ms all)

own_at : (own : Term → Type 0) (tree : Term → TypeData) (ms : List Method) (i : ℕ) (m : Method) → slice_get ms i ≡ Some m → AreOwnMethods own tree ms → IsOwnMethod own tree m
own_at own tree [] i m at all = absurd (let none : None ≡ Some m = at in cc)
own_at own tree (x ∷ xs) zero m at all = let same : x ≡ m = (let e : Some x ≡ Some m = at in cc) in subst (IsOwnMethod own tree) same all.0
own_at own tree (x ∷ xs) (suc i) m at all = own_at own tree xs i m at all.1

pub at_kept : {own own' : Term → Type 0} {tree tree' : Term → TypeData} → KeepsTypes own own' tree tree' → (headers headers' : Headers) → headers' ≡ headers → (ms : List Method) → AreOwnMethods own tree ms
    → (es : List (Key × ℕ)) (i : ℕ) (truth : Bool) → ConflictsAt (differ headers' tree') ms es i truth → ConflictsAt (differ headers tree) ms es i truth
at_kept {own} {own'} {tree} {tree'} kept headers headers' same ms all es i truth says m first place at found there =
    says m first place at found there
    ∙ conflicts_kept kept headers headers' same ms all first m (own_at own tree ms place first there all).0 (own_at own tree ms i m at all).0 (is_further place first i m)

pub is_own_at : (own : Term → Type 0) (tree : Term → TypeData) (ms : List Method) (i : ℕ) (m : Method) → i < length ms → m ≡ get_or ms i m → AreOwnMethods own tree ms → IsOwnMethod own tree m
is_own_at own tree ms i m lt at all = own_at own tree ms i m (slice_get-get_or ms i m lt ∙ ap Some (sym at)) all

-- WHAT AN INTERFACE GETS

mapped : {X Y : Type 0} (f : X → Y) (xs : List X) (x : X) → Contains xs x → Contains (map f xs) (f x)
mapped f xs x has = stands (map f xs) has.0 (f x) (slice_get-map f xs has.0 ∙ ap (option_map f) (stands_at xs x has))

-- what stands in a list of views is the view of what stands in the list
record IsViewOf {X Y : Type 0} (f : X → Y) (xs : List X) (y : Y) : Type 0 where
  item : X
  has : Contains xs item
  is : f item ≡ y

unmapped : {X Y : Type 0} (f : X → Y) (xs : List X) (y : Y) → Contains (map f xs) y → IsViewOf f xs y
unmapped {X} {Y} f xs y has = by_item (slice_get xs has.0) refl (sym (slice_get-map f xs has.0) ∙ stands_at (map f xs) y has)
  where
    by_item : (o : Option X) → slice_get xs has.0 ≡ o → option_map f o ≡ Some y → IsViewOf f xs y
    by_item None at e = absurd (let none : None ≡ Some y = e in cc)
    by_item (Some x) at e = record { item = x; has = stands xs has.0 x at; is = (let same : Some (f x) ≡ Some y = e in cc) }

module _ (own : Term → Type 0) (tree : Term → TypeData) (headers : Headers) (t : TypeData) (ms : List Method) (all : AreOwnMethods own tree ms)
    (exact : (m : OwnMethod) → Contains (map (method_view tree) ms) m ↔ Gets headers t m) where
  signed : (m : Method) → Contains ms m → tree m.signature ≡ signature_of (method_view tree m)
  signed m has = (own_at own tree ms has.0 m (stands_at ms m has) all).1

  to_two : AreInConflict (differ headers tree) ms → GetsTwo headers t
  to_two c = record {
    first = method_view tree c.first;
    other = method_view tree c.other;
    gets_first = (exact (method_view tree c.first)).0 (mapped (method_view tree) ms c.first c.has_first);
    gets_other = (exact (method_view tree c.other)).0 (mapped (method_view tree) ms c.other c.has_other);
    named_alike = is_same_key (key_of c.first) (key_of c.other) c.named_alike;
    is_first = λ m gets named. least m (unmapped (method_view tree) ms m ((exact m).1 gets)) named;
    differ = ap (λ u. run headers (identical u (signature_of (method_view tree c.other)))) (sym (signed c.first c.has_first))
        ∙ ap (λ u. run headers (identical (tree c.first.signature) u)) (sym (signed c.other c.has_other))
        ∙ no_is (run headers (identical (tree c.first.signature) (tree c.other.signature))) c.differing;
  }
    where
      least : (m : OwnMethod) → IsViewOf (method_view tree) ms m → same_name (method_view tree c.first) m ≡ true → c.first.object.0 ≤ m.head.object.0
      least m v named =
          let alike : same_name (method_view tree c.first) (method_view tree v.item) ≡ true = ap (same_name (method_view tree c.first)) v.is ∙ named in
          let le = c.is_first v.item v.has (same_key_is (key_of c.first) (key_of v.item) alike) in
          subst (λ (x : OwnMethod). c.first.object.0 ≤ x.head.object.0) v.is le

  from_two : GetsTwo headers t → AreInConflict (differ headers tree) ms
  from_two g = record {
    first = f.item;
    other = o.item;
    has_first = f.has;
    has_other = o.has;
    named_alike = same_key_is (key_of f.item) (key_of o.item) (ap (λ x. same_name x (method_view tree o.item)) f.is ∙ ap (same_name g.first) o.is ∙ g.named_alike);
    is_first = λ m has named.
        (let le = g.is_first (method_view tree m) ((exact (method_view tree m)).0 (mapped (method_view tree) ms m has))
        (ap (λ x. same_name x (method_view tree m)) (sym f.is) ∙ is_same_key (key_of f.item) (key_of m) named) in
        subst (λ (x : OwnMethod). x.head.object.0 ≤ m.object.0) (sym f.is) le);
    differing = ap is_no (ap (λ u. run headers (identical u (tree o.item.signature))) (signed f.item f.has)
        ∙ ap (λ u. run headers (identical (signature_of (method_view tree f.item)) u)) (signed o.item o.has)
        ∙ ap (λ x. run headers (identical (signature_of x) (signature_of (method_view tree o.item)))) f.is
        ∙ ap (λ x. run headers (identical (signature_of g.first) (signature_of x))) o.is
        ∙ g.differ);
  }
    where
      f : IsViewOf (method_view tree) ms g.first
      f = unmapped (method_view tree) ms g.first ((exact g.first).1 g.gets_first)

      o : IsViewOf (method_view tree) ms g.other
      o = unmapped (method_view tree) ms g.other ((exact g.other).1 g.gets_other)

  pub gets_two : AreInConflict (differ headers tree) ms ↔ GetsTwo headers t
  gets_two = (to_two, from_two)

-- ONE METHOD OF SEVERAL

module _ {own own' : Term → Type 0} {tree tree' : Term → TypeData} (kept : KeepsTypes own own' tree tree') (headers headers' : Headers) (same : headers' ≡ headers)
    (ms : List Method) (i : ℕ) (o : Method) (lt : i < length ms) (at : o ≡ get_or ms i o) (m : Method) (is : own m.signature) (all : AreOwnMethods own tree (drop i ms)) where
  opens : drop i ms ≡ o ∷ drop (i + 1) ms
  opens = rw add-one (drop-cons ms i o lt ∙ ap (λ l. l ∷ drop (suc i) ms) (sym at))

  split : AreOwnMethods own tree (o ∷ drop (i + 1) ms)
  split = subst (AreOwnMethods own tree) opens all

  pub other_here : own' o.signature
  other_here = kept.types o.signature split.0.0

  pub others_left : AreOwnMethods own tree (drop (i + 1) ms)
  others_left = split.1

  pub others_step : (truth : Bool) → truth ≡ (same_key (key_of m) (key_of o) && differ headers' tree' m o) → (whole : Bool) → differs_from_any (differ headers tree) (drop i ms) m ≡ whole
      → (truth || differs_from_any (differ headers tree) (drop (i + 1) ms) m) ≡ whole
  others_step truth says whole left =
      ap (λ b. b || differs_from_any (differ headers tree) (drop (i + 1) ms) m) (says ∙ ap (λ b. same_key (key_of m) (key_of o) && b) (differ_kept kept headers headers' same m o is split.0.0))
      ∙ ap (λ l. differs_from_any (differ headers tree) l m) (sym opens)
      ∙ left
