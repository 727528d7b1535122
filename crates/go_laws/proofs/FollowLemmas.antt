-- What follows from all headers of a package is among them.
use Rattle.std.proofs.Common.{◌≡◌, ℕ, Bool, cond, Option, Some, None, List, [], ◌∷◌, ◌++◌, ◌⊎◌, inl, inr, map, Contains, refl, sym, ap, ◌∙◌, subst, ⊎_elim}
use Rattle.std.proofs.lemmas.Bool.{cases_eq, eq-eqb, ne_eqb}
use Rattle.go_module.proofs.MemberLemmas.{cons_cases, contains_head, contains_none, contains_tail}
use Rattle.go_module.specs.Names.Declarations.{Declaration, number_of}
use Rattle.go_judge.specs.Records.{HeaderData}
use Rattle.go_judge.specs.Headers.{Headers, headers_of}
use Rattle.go_report.specs.Phases.{HasHeaders}
use Rattle.go_values.specs.Declared.{declared_as}
use Rattle.go_values.specs.Headers.{Follows, Justified, Known}
use Rattle.go_judge.specs.Naming.{Naming}
use Rattle.go_judge.specs.Quests.{IsPart}
use Rattle.go_values.specs.Records.{header_over}
use Rattle.go_values.proofs.HeaderLemmas.{both_justified, closed_under, header_over-part, headers_of-here, kept, later_part, stays}
use Rattle.go_model.proofs.FlatLemmas.{map_contains}

-- what a number names is a declaration with that number
pub record Names (declarations : List Declaration) (n : ℕ) (d : Declaration) : Type 0 where
  pub among : Contains declarations d
  pub number : (number_of d).0 ≡ n

pub declared_names : (declarations : List Declaration) (n : ℕ) (d : Declaration) → declared_as declarations n ≡ Some d → Names declarations n d
declared_names [] n d e = absurd (let never : None ≡ Some d = e in cc)
declared_names (x ∷ xs) n d e =
    ⊎_elim
    (λ here. (let first : Some x ≡ Some d = sym (ap (λ b. cond b (Some x) (declared_as xs n)) (eq-eqb (number_of x).0 n here)) ∙ e in
    let same : x ≡ d = cc in
    record { among = contains_head x xs d same; number = ap (λ y. (number_of y).0) (sym same) ∙ here }))
    (λ ne. (let there = declared_names xs n d (sym (ap (λ b. cond b (Some x) (declared_as xs n)) (ne_eqb (number_of x).0 n ne)) ∙ e) in
    record { among = contains_tail x xs d there.among; number = there.number }))
    (cases_eq (number_of x).0 n)

-- the numbers of declarations
abbrev pub all_numbers : List Declaration → List ℕ
all_numbers declarations = map (λ (d : Declaration). (number_of d).0) declarations

pub number_in : (declarations : List Declaration) (d : Declaration) → Contains declarations d → (n : ℕ) → (number_of d).0 ≡ n → Contains (all_numbers declarations) n
number_in declarations d among n same = subst (Contains (all_numbers declarations)) same (map_contains (λ (x : Declaration). (number_of x).0) declarations d among)

module _ (before : Headers) (naming : Naming) (all : List Declaration) (headers : Headers) (cyclic : ℕ → Bool) (has : HasHeaders before naming all headers cyclic) where
  -- what is known before is known
  pub base : IsPart before headers
  base d h e = (has.known d h).1 (record { list = []; justified = tt; has = e })

  record One (numbers : List ℕ) : Type 0 where
    pub list : List (ℕ × HeaderData)
    pub justified : Justified before naming all list
    pub has_all : (n : ℕ) → Contains numbers n → (h : HeaderData) → headers n ≡ Some h → headers_of before list n ≡ Some h

  -- one justified list has the headers of all these numbers
  in_one : (numbers : List ℕ) → One numbers
  in_one [] = record { list = []; justified = tt; has_all = λ n h. absurd (contains_none n h) }
  in_one (n ∷ numbers) = by_header (in_one numbers) (headers n) refl
    where
      by_header : One numbers → (o : Option HeaderData) → headers n ≡ o → One (n ∷ numbers)
      by_header rest None e = record {
        list = rest.list;
        justified = rest.justified;
        has_all = λ i there h known. by_cases (cons_cases n numbers i there) h known;
      }
        where
          by_cases : {i : ℕ} → (n ≡ i) ⊎ Contains numbers i → (h : HeaderData) → headers i ≡ Some h → headers_of before rest.list i ≡ Some h
          by_cases {i} (inl same) h known = absurd (let never : None ≡ Some h = sym e ∙ ap headers same ∙ known in cc)
          by_cases {i} (inr there) h known = rest.has_all i there h known
      by_header rest (Some g) e =
          let k = (has.known n g).0 e in
          record {
            list = k.list ++ rest.list;
            justified = both_justified before naming all rest.list rest.justified k.list k.justified;
            has_all = λ i there h known. by_cases k (cons_cases n numbers i there) h known;
          }
        where
          by_cases : (k : Known before naming all n g) → {i : ℕ} → (n ≡ i) ⊎ Contains numbers i → (h : HeaderData) → headers i ≡ Some h → headers_of before (k.list ++ rest.list) i ≡ Some h
          by_cases k {i} (inl same) h known =
              let value : g ≡ h = (let both : Some g ≡ Some h = sym e ∙ ap headers same ∙ known in cc) in
              subst (λ j. headers_of before (k.list ++ rest.list) j ≡ Some h) same (closed_under before naming all rest.list rest.justified k.list k.justified n h (k.has ∙ ap Some value))
          by_cases k {i} (inr there) h known = later_part before naming all rest.list rest.justified k.list k.justified i h (rest.has_all i there h known)

  -- what follows from the headers is among them
  pub follows_known : (n : ℕ) (d : Declaration) (v : HeaderData) → declared_as all n ≡ Some d → headers n ≡ None → header_over naming headers d ≡ Some v → ⊥
  follows_known n d v declared missing value =
      let single = in_one (all_numbers all) in
      let whole = header_over-part naming headers (headers_of before single.list) (in_list single) d v value in
      let follows : Follows before naming all (headers_of before single.list) n v = record { declaration = d; declared = declared; fresh = fresh (before n) refl; tells = whole } in
      let known = (has.known n v).1 (record { list = (n, v) ∷ single.list; justified = (single.justified, follows); has = headers_of-here before (n, v) single.list n refl }) in
      let never : None ≡ Some v = sym missing ∙ known in cc
    where
      fresh : (o : Option HeaderData) → before n ≡ o → before n ≡ None
      fresh None e = e
      fresh (Some h) e = absurd (let never : None ≡ Some h = sym missing ∙ base n h e in cc)

      in_list : (single : One (all_numbers all)) → IsPart headers (headers_of before single.list)
      in_list single i h known = by_cause (stays before naming all k.list k.justified i h k.has)
        where
          k : Known before naming all i h
          k = (has.known i h).0 known

          by_cause : (before i ≡ Some h) ⊎ Follows before naming all (headers_of before k.list) i h → headers_of before single.list i ≡ Some h
          by_cause (inl was) = kept before naming all single.list single.justified i h was
          by_cause (inr follows) =
              let is = declared_names all i follows.declaration follows.declared in
              single.has_all i (number_in all follows.declaration is.among i is.number) h known
