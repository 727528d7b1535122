-- The search for what a type embeds: what each step adds, and when it is at its end.
use Rattle.std.proofs.Common.{◌≡◌, ℕ, ◌+◌, ◌<◌, ◌≤◌, Bool, true, false, Contains, Some, List, [], ◌∷◌, ◌++◌, ◌⊎◌, inl, inr, length, map, refl, sym, ap, subst, ◌∙◌, arith, below_more, append_assoc}
use Rattle.std.specs.Prelude.{◌↔◌, ◌||◌, slice_get}
use Rattle.std.specs.List.{AllByRecursion}
use Rattle.std.proofs.lemmas.List.{append-nil, map-append}
use Rattle.std.proofs.lemmas.List.Elements.{Contains-append_cases, Contains-append_left, Contains-append_right}
use Rattle.std.proofs.lemmas.Option.{slice_get_within}
use Rattle.go_base.specs.declared.ids.ObjId.{ObjId}
use Rattle.go_module.specs.Scopes.{same_object}
use Rattle.go_module.proofs.MemberLemmas.{cons_cases, contains_head, contains_none}
use Rattle.go_term.specs.Types.{TypeData, made, named, no_parts}
use Rattle.go_term.specs.declared.term.Term.{Term}
use Rattle.go_model.specs.Obligations.Embedded.{Embeds, itself, further, IsUnderlying, embedded_in}
use Rattle.go_judge.specs.Headers.{Headers}
use Rattle.go_judge.specs.Types.Forms.{IsOwnForm, form_as, form_asked, underlying_over}
use Rattle.go_judge.specs.Types.Own.{KeepsTypes}
use Rattle.go_judge.specs.Types.UnderlyingType.{Reach, Reaches, Returns, Exceeds, under}
use Rattle.go_judge.specs.Quests.{Asked, Decided, Lacks, run}
use Rattle.go_judge.specs.declared.form.Form.{Form}
use Rattle.go_judge.specs.declared.form.Form.TheVariants as F
use Rattle.go_judge.proofs.EntryLemmas.{same_is}
use Rattle.go_obligations.specs.EmbeddedSearch.{AreOpened, IsSearch, IsSearched, IsUnderlyingOf, Opens, types_asked, types_of_form, underlying_types}
use Rattle.go_obligations.proofs.ListLemmas.{all-weaker, at-before, at-contains, contains-at, map-agrees}

-- the one element of a list
pub only_one : {X : Type 0} (x y : X) → Contains (x ∷ []) y → x ≡ y
only_one {X} x y h = by_cases (cons_cases x [] y h)
  where
    by_cases : (x ≡ y) ⊎ Contains [] y → x ≡ y
    by_cases (inl same) = same
    by_cases (inr none) = absurd (contains_none y none)

-- what an answer has is the underlying type
types_contain : (r : Asked Reach) (u : TypeData) → Contains (types_asked (form_asked r)) u → r ≡ Decided (Reaches u)
types_contain (Decided (Reaches t)) u h = ap (λ v. Decided (Reaches v)) (only_one t u h)
types_contain (Decided Returns) u h = absurd (contains_none u h)
types_contain (Decided (Exceeds fault)) u h = absurd (contains_none u h)
types_contain (Lacks d) u h = absurd (contains_none u h)

types_have : (r : Asked Reach) (u : TypeData) → r ≡ Decided (Reaches u) → Contains (types_asked (form_asked r)) u
types_have r u e = subst (λ (r : Asked Reach). Contains (types_asked (form_asked r)) u) (sym e) (contains_head u [] u refl)

pub form-types : (tree : Term → TypeData) (form : Form) → map tree (types_of_form form) ≡ types_asked (form_as tree form)
form-types tree (F.Is t) = refl
form-types tree F.Absent = refl
form-types tree (F.Unknown d) = refl

pub form-owned : (own : Term → Type 0) (form : Form) → IsOwnForm own form → AllByRecursion own (types_of_form form)
form-owned own (F.Is t) is = (is, tt)
form-owned own F.Absent is = tt
form-owned own (F.Unknown d) is = tt

-- types stay as a judge goes on
module _ {own own' : Term → Type 0} {tree tree' : Term → TypeData} (kept : KeepsTypes own own' tree tree') (ts : List Term) (all : AllByRecursion own ts) where
  pub types-kept : AllByRecursion own' ts
  types-kept = all-weaker own own' kept.types ts all

  pub trees-kept : map tree' ts ≡ map tree ts
  trees-kept = map-agrees own tree' tree kept.trees ts all

-- the underlying type of one more type
pub underlying-pushed : {own own' : Term → Type 0} {tree tree' : Term → TypeData} (kept : KeepsTypes own own' tree tree') (headers : Headers) (t : TypeData) (form : Form) (old new : List Term)
    → AllByRecursion own old → form_as tree' form ≡ underlying_over headers t → new ≡ old ++ types_of_form form → map tree' new ≡ map tree old ++ underlying_types headers t
underlying-pushed {tree = tree} {tree' = tree'} kept headers t form old new all asked e =
    ap (map tree') e
    ∙ map-append tree' old (types_of_form form)
    ∙ (λ i. trees-kept kept old all i ++ (form-types tree' form ∙ ap types_asked asked) i)

-- a type and those that were found, where the same headers are known and they stand for the same
pub opens_moved : {headers headers' : Headers} {ts ts' found found' new : List TypeData} → headers' ≡ headers → ts' ≡ ts → found' ≡ found → Opens headers' ts' found' new → Opens headers ts found new
opens_moved {headers} {headers'} {ts} {ts'} {found} {found'} {new} same types before opens =
    subst (λ (xs : List TypeData). Opens headers ts xs new) before
    (subst (λ (xs : List TypeData). Opens headers xs found' new) types
    (subst (λ (h : Headers). Opens h ts' found' new) same opens))

module _ (headers : Headers) where
  is_one : (P : TypeData → Type 0) (t s : TypeData) → Contains (t ∷ []) s → P s → P t
  is_one P t s among p = subst P (sym (only_one t s among)) p

  -- the underlying type of one type was added
  pub opened_now : (t : TypeData) (found new : List TypeData) → new ≡ found ++ underlying_types headers t → Opens headers (t ∷ []) found new
  opened_now t found new e = record {
    added = underlying_types headers t;
    behind = e;
    only = λ u h. record { type = t; among = contains_head t [] t refl; is = types_contain (run headers (under t)) u h };
    all = λ s u among is.
        subst (λ (xs : List TypeData). Contains xs u) (sym e)
        (Contains-append_right found (underlying_types headers t) u
        (types_have (run headers (under t)) u (is_one (λ w. IsUnderlying headers w u) t s among is)));
  }

  -- it was there before
  pub opened_before : (t : TypeData) (found : List TypeData) (opened : ObjId → Bool) (d : ObjId) → AreOpened headers found opened → t ≡ made (named d) no_parts → opened d ≡ true → Opens headers (t ∷ []) found found
  opened_before t found opened d are name before = record {
    added = [];
    behind = sym (append-nil found);
    only = λ u h. absurd (contains_none u h);
    all = λ s u among is.
        are d before u (subst (λ (w : TypeData). IsUnderlying headers w u) name (is_one (λ w. IsUnderlying headers w u) t s among is));
  }

  pub opens_none : (found : List TypeData) → Opens headers [] found found
  opens_none found = record {
    added = [];
    behind = sym (append-nil found);
    only = λ u h. absurd (contains_none u h);
    all = λ s u among is. absurd (contains_none s among);
  }

  pub stays_found : {ts found new : List TypeData} → Opens headers ts found new → (u : TypeData) → Contains found u → Contains new u
  stays_found {ts} {found} {new} opens u h = subst (λ (xs : List TypeData). Contains xs u) (sym opens.behind) (Contains-append_left found opens.added u h)

  -- some types, and then others
  pub opens_then : {ts us found next new : List TypeData} → Opens headers ts found next → Opens headers us next new → Opens headers (ts ++ us) found new
  opens_then {ts} {us} {found} {next} {new} a b = record {
    added = a.added ++ b.added;
    behind = b.behind ∙ ap (λ xs. xs ++ b.added) a.behind ∙ append_assoc found a.added b.added;
    only = λ u h. by_added u (Contains-append_cases a.added b.added u h);
    all = λ t u among is. by_types t u is (Contains-append_cases ts us t among);
  }
    where
      by_added : (u : TypeData) → Contains a.added u ⊎ Contains b.added u → IsUnderlyingOf headers (ts ++ us) u
      by_added u (inl here) = let from = a.only u here in record { type = from.type; among = Contains-append_left ts us from.type from.among; is = from.is }
      by_added u (inr there) = let from = b.only u there in record { type = from.type; among = Contains-append_right ts us from.type from.among; is = from.is }

      by_types : (t u : TypeData) → IsUnderlying headers t u → Contains ts t ⊎ Contains us t → Contains new u
      by_types t u is (inl here) = stays_found b u (a.all t u here is)
      by_types t u is (inr there) = b.all t u there is

  -- what was opened stays so, with one object more
  pub still_opened : {ts found new : List TypeData} (opened : ObjId → Bool) → AreOpened headers found opened → Opens headers ts found new → AreOpened headers new opened
  still_opened opened are opens d before u is = stays_found opens u (are d before u is)

  pub one_opened : (t : TypeData) (found new : List TypeData) (opened opened' : ObjId → Bool) (d : ObjId) → AreOpened headers new opened → Opens headers (t ∷ []) found new → t ≡ made (named d) no_parts
      → ((e : ObjId) → opened' e ≡ (opened e || same_object e d)) → AreOpened headers new opened'
  one_opened t found new opened opened' d are opens name added e now u is = by_before (opened e) refl (sym (added e) ∙ now)
    where
      by_before : (b : Bool) → opened e ≡ b → (b || same_object e d) ≡ true → Contains new u
      by_before true before now = are e before u is
      by_before false before now =
          let same : t ≡ made (named e) no_parts = name ∙ ap (λ (k : ObjId). made (named k) no_parts) (sym (same_is e d now)) in
          opens.all t u (contains_head t [] t refl) (subst (λ (w : TypeData). IsUnderlying headers w u) (sym same) is)

  module _ (t : TypeData) where
    pub search_starts : IsSearched headers t (t ∷ []) 0
    search_starts = record {
      begins = contains_head t [] t refl;
      reached = λ u h. subst (Embeds headers t) (only_one t u h) itself;
      looked = λ i u e v lt. absurd (omega (arith, lt));
    }

    pub search_goes_on : (found new : List TypeData) (next : ℕ) (u : TypeData) → IsSearched headers t found next → slice_get found next ≡ Some u → Opens headers (embedded_in u) found new → IsSearched headers t new (next + 1)
    search_goes_on found new next u searched at opens = record {
      begins = stays_found opens t searched.begins;
      reached = λ v h. by_found v (Contains-append_cases found opens.added v (subst (λ (xs : List TypeData). Contains xs v) opens.behind h));
      looked = λ i w e v lt get among is. below_more Looked next before now i lt w e v get among is;
    }
      where
        by_found : (v : TypeData) → Contains found v ⊎ Contains opens.added v → Embeds headers t v
        by_found v (inl here) = searched.reached v here
        by_found v (inr there) = let from = opens.only v there in further u from.type v (searched.reached u (contains-at found next u at)) from.among from.is

        Looked : ℕ → Type 0
        Looked i = (w e v : TypeData) → slice_get new i ≡ Some w → Contains (embedded_in w) e → IsUnderlying headers e v → Contains new v

        here : (i : ℕ) (w : TypeData) → i < length found → slice_get new i ≡ Some w → slice_get found i ≡ Some w
        here i w lt get = at-before found opens.added i w lt (ap (λ xs. slice_get xs i) (sym opens.behind) ∙ get)

        within : next < length found
        within = slice_get_within found next u at

        before : (i : ℕ) → i < next → Looked i
        before i lt w e v get among is = stays_found opens v (searched.looked i w e v lt (here i w (omega (arith, lt, within)) get) among is)

        now : Looked next
        now w e v get among is =
            let some : Some u ≡ Some w = sym at ∙ here next w within get in
            let same : w ≡ u = cc in
            opens.all e v (subst (λ (x : TypeData). Contains (embedded_in x) e) same among) is

    -- all were looked at
    module _ (found : List TypeData) (next : ℕ) (searched : IsSearched headers t found next) (ends : length found ≤ next) where
      complete : (u : TypeData) → Embeds headers t u → Contains found u
      complete _ itself = searched.begins
      complete _ (further u e v embeds among is) =
          let at = at-contains found u (complete u embeds) in
          let lt = at.1 in
          searched.looked at.0 u e v (omega (arith, lt, ends)) at.2 among is

      pub search_ends : (u : TypeData) → Contains found u ↔ Embeds headers t u
      search_ends u = (searched.reached u, complete u)

-- a search as the judge goes on, and behind one type more
module _ {headers headers' : Headers} {own own' : Term → Type 0} {tree tree' : Term → TypeData} (same : headers' ≡ headers) (found : List Term) (opened : ObjId → Bool) (search : IsSearch headers own tree found opened) where
  pub search_kept : KeepsTypes own own' tree tree' → IsSearch headers' own' tree' found opened
  search_kept kept = record {
    own = types-kept kept found search.own;
    opened =
        subst (λ (h : Headers). AreOpened h (map tree' found) opened) (sym same)
        (subst (λ (xs : List TypeData). AreOpened headers xs opened) (sym (trees-kept kept found search.own)) search.opened);
  }

  module _ (new : List Term) (owned : AllByRecursion own' new) (t : TypeData) (pushed : map tree' new ≡ map tree found ++ underlying_types headers t) where
    pub search_more : IsSearch headers' own' tree' new opened
    search_more = record {
      own = owned;
      opened =
          subst (λ (h : Headers). AreOpened h (map tree' new) opened) (sym same)
          (still_opened headers opened search.opened (opened_now headers t (map tree found) (map tree' new) pushed));
    }

    pub search_named : (opened' : ObjId → Bool) (d : ObjId) → t ≡ made (named d) no_parts → ((e : ObjId) → opened' e ≡ (opened e || same_object e d)) → IsSearch headers' own' tree' new opened'
    search_named opened' d name added =
        let opens = opened_now headers t (map tree found) (map tree' new) pushed in
        record {
          own = owned;
          opened =
              subst (λ (h : Headers). AreOpened h (map tree' new) opened') (sym same)
              (one_opened headers t (map tree found) (map tree' new) opened opened' d (still_opened headers opened search.opened opens) opens name added);
        }

-- a search that begins with one type
module _ (headers : Headers) (tree : Term → TypeData) (t : Term) (found : List Term) (e : found ≡ t ∷ []) where
  pub search_begins : (own : Term → Type 0) (opened : ObjId → Bool) → own t → ((d : ObjId) → opened d ≡ false) → IsSearch headers own tree found opened
  search_begins own opened is none = record {
    own = subst (AllByRecursion own) (sym e) (is, tt);
    opened = λ d now. absurd (let never : false ≡ true = sym (none d) ∙ now in cc);
  }

  pub begins_searched : IsSearched headers (tree t) (map tree found) 0
  begins_searched = subst (λ (ts : List Term). IsSearched headers (tree t) (map tree ts) 0) (sym e) (search_starts headers (tree t))
