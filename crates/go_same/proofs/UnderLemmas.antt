-- Underlying types and the objects of fields and methods: no chain goes by these. And an interface at the end of a chain is
-- not too deep.
use Rattle.std.proofs.Common.{◌≡◌, ℕ, zero, suc, ◌≤◌, ◌==◌, Bool, true, false, if◌then◌else◌, Option, None, Some, List, [], ◌∷◌, length, position, slice_get, refl, sym, ap, subst, ◌∙◌, arith, nat_lt}
use Rattle.std.specs.List.{list_any}
use Rattle.std.specs.Option.{option_map}
use Rattle.std.specs.Prelude.{unwrap_or, option_and_then}
use Rattle.go_base.specs.declared.ids.ObjId.{ObjId}
use Rattle.go_term.specs.Size.{depth, greatest_depth, most_depth, most_nodes, nodes, nodes_of_all, size_fault, weight}
use Rattle.go_term.specs.Substitution.{argument_for, is_param, put_at, subst as put, subst_all as put_all}
use Rattle.go_term.specs.Types.{Head, basic, named, param, field, method, TypeData, Parts, made, no_parts, more_parts, list_of}
use Rattle.go_term.specs.declared.basic.Basic.TheVariants as B
use Rattle.go_term.specs.declared.fault.TermFault.{TermFault}
use Rattle.go_term.specs.declared.fault.TermFault.TheVariants.{Deep, Large}
use Rattle.go_term.specs.declared.term.Term.{Term}
use Rattle.go_judge.specs.Records.{HeaderData, definition}
use Rattle.go_judge.specs.Headers.{Headers}
use Rattle.go_judge.specs.Types.Forms.{form_as, form_asked, found_in, underlying_over}
use Rattle.go_judge.specs.Types.TypeSets.{SetAsked, is_interface, is_interface_head, named_set, named_set_by, plain, plain_all, without_object}
use Rattle.go_judge.specs.Types.UnderlyingType.{Reach, Reaches, Returns, Exceeds, Origin, Reaching, declared_by, literal_of, most_steps, on_with, params_from, refers_to, right_side, same_origin, step_by, under, under_from}
use Rattle.go_judge.specs.Quests.{Asked, Decided, Lacks, Done, Need, run}
use Rattle.go_judge.specs.declared.form.Form.{Form}
use Rattle.go_judge.specs.declared.form.Form.TheVariants as F
use Rattle.go_same.specs.Collect.{IsShallowForm, asked_then}
use Rattle.go_same.proofs.CollectLemmas.{run-then}

-- plain twice is plain
without-twice : (h : Head) → without_object (without_object h) ≡ without_object h
without-twice (field f) = refl
without-twice (method m) = refl
without-twice h = refl

mutual
  pub plain-twice : (t : TypeData) → plain (plain t) ≡ plain t
  plain-twice (made h ps) = let one = without-twice h in let rest = plain_all-twice ps in cc

  plain_all-twice : (ps : Parts) → plain_all (plain_all ps) ≡ plain_all ps
  plain_all-twice no_parts = refl
  plain_all-twice (more_parts t ts) = let one = plain-twice t in let rest = plain_all-twice ts in cc

-- sizes
weight-plain : (h : Head) → weight (without_object h) ≡ weight h
weight-plain (field f) = refl
weight-plain (method m) = refl
weight-plain h = refl

mutual
  pub depth-plain : (t : TypeData) → depth (plain t) ≡ depth t
  depth-plain (made h ps) = let one = weight-plain h in let rest = depth_all-plain ps in cc

  depth_all-plain : (ps : Parts) → greatest_depth (plain_all ps) ≡ greatest_depth ps
  depth_all-plain no_parts = refl
  depth_all-plain (more_parts t ts) = let one = depth-plain t in let rest = depth_all-plain ts in cc

mutual
  nodes-plain : (t : TypeData) → nodes (plain t) ≡ nodes t
  nodes-plain (made h ps) = let one = weight-plain h in let rest = nodes_all-plain ps in cc

  nodes_all-plain : (ps : Parts) → nodes_of_all (plain_all ps) ≡ nodes_of_all ps
  nodes_all-plain no_parts = refl
  nodes_all-plain (more_parts t ts) = let one = nodes-plain t in let rest = nodes_all-plain ts in cc

fault_by : ℕ → ℕ → Option TermFault
fault_by d n = if nat_lt most_depth d then Some Deep else if nat_lt most_nodes n then Some Large else None

fault-is : (t : TypeData) → size_fault t ≡ fault_by (depth t) (nodes t)
unfolding fault_by
fault-is t = refl

fault-plain : (t : TypeData) → size_fault (plain t) ≡ size_fault t
fault-plain t =
    let d = depth-plain t in let n = nodes-plain t in
    let here = fault-is (plain t) in let there = fault-is t in cc

fault-same : (t u : TypeData) → plain t ≡ plain u → size_fault t ≡ size_fault u
fault-same t u e = sym (fault-plain t) ∙ ap size_fault e ∙ fault-plain u

-- substitution
get-plain : (args : Parts) (k : ℕ) → option_map plain (slice_get (list_of (plain_all args)) k) ≡ option_map plain (slice_get (list_of args) k)
get-plain no_parts k = refl
get-plain (more_parts t ts) zero = ap Some (plain-twice t)
get-plain (more_parts t ts) (suc k) = get-plain ts k

argument-plain : (args : Parts) (o : Option ℕ) → option_map plain (option_and_then (slice_get (list_of (plain_all args))) o) ≡ option_map plain (option_and_then (slice_get (list_of args)) o)
argument-plain args None = refl
argument-plain args (Some k) = get-plain args k

or-plain : (a b : Option TypeData) (t u : TypeData) → option_map plain a ≡ option_map plain b → plain t ≡ plain u → plain (unwrap_or a t) ≡ plain (unwrap_or b u)
or-plain None None t u e f = f
or-plain None (Some b) t u e f = cc
or-plain (Some a) None t u e f = cc
or-plain (Some a) (Some b) t u e f = let same : plain a ≡ plain b = cc in same

at-plain : (from : List (ObjId × ℕ)) (args : Parts) (h : Head) (t u : TypeData) → plain t ≡ plain u → plain (put_at from (list_of (plain_all args)) h t) ≡ plain (put_at from (list_of args) h u)
at-plain from args (param d i) t u e = or-plain (argument_for from (list_of (plain_all args)) d i) (argument_for from (list_of args) d i) t u (argument-plain args (position (is_param d i) from)) e
at-plain from args h t u e = e

mutual
  put-plain : (from : List (ObjId × ℕ)) (args : Parts) (t : TypeData) → plain (put from (list_of (plain_all args)) t) ≡ plain (put from (list_of args) t)
  put-plain from args (made h ps) = at-plain from args h (made h (put_all from (list_of (plain_all args)) ps)) (made h (put_all from (list_of args) ps)) (ap (made (without_object h)) (put_all-plain from args ps))

  put_all-plain : (from : List (ObjId × ℕ)) (args : Parts) (ts : Parts) → plain_all (put_all from (list_of (plain_all args)) ts) ≡ plain_all (put_all from (list_of args) ts)
  put_all-plain from args no_parts = refl
  put_all-plain from args (more_parts t ts) = let one = put-plain from args t in let rest = put_all-plain from args ts in cc

length-plain : (args : Parts) → length (list_of (plain_all args)) ≡ length (list_of args)
length-plain no_parts = refl
length-plain (more_parts t ts) = ap suc (length-plain ts)

right-plain : (d : ObjId) (args : Parts) (header : HeaderData) → option_map plain (right_side d (list_of (plain_all args)) header) ≡ option_map plain (right_side d (list_of args) header)
right-plain d args (definition params right methods) =
    ap (λ (n : ℕ). option_map plain (if length params == n then Some (put (params_from d 0 params) (list_of (plain_all args)) right) else None)) (length-plain args)
    ∙ go (length params == length (list_of args))
  where
    go : (b : Bool) → option_map plain (if b then Some (put (params_from d 0 params) (list_of (plain_all args)) right) else None) ≡ option_map plain (if b then Some (put (params_from d 0 params) (list_of args) right) else None)
    go true = ap Some (put-plain (params_from d 0 params) args right)
    go false = refl
right-plain d args header = refl

refers-plain : (h : Head) (ps : Parts) (header : HeaderData) → option_map plain (refers_to (without_object h) (plain_all ps) header) ≡ option_map plain (refers_to h ps header)
refers-plain (named d) ps header = right-plain d ps header
refers-plain (field f) ps header = refl
refers-plain (method m) ps header = refl
refers-plain h ps header = refl

declared-plain : (h : Head) → declared_by (without_object h) ≡ declared_by h
declared-plain (field f) = refl
declared-plain (method m) = refl
declared-plain h = refl

literal-plain : (h : Head) (ps : Parts) → plain (literal_of (without_object h) (plain_all ps)) ≡ plain (literal_of h ps)
literal-plain (basic B.Error) ps = refl
literal-plain (basic b) ps = plain-twice (made (basic b) ps)
literal-plain (field f) ps = plain-twice (made (field f) ps)
literal-plain (method m) ps = plain-twice (made (method m) ps)
literal-plain h ps = plain-twice (made h ps)

literal-same : (h : Head) (ps : Parts) (h' : Head) (ps' : Parts) → plain (made h ps) ≡ plain (made h' ps') → plain (literal_of h ps) ≡ plain (literal_of h' ps')
literal-same h ps h' ps' e =
    let heads : without_object h ≡ without_object h' = cc in
    let parts : plain_all ps ≡ plain_all ps' = cc in
    sym (literal-plain h ps) ∙ ap (λ x. plain (literal_of x (plain_all ps))) heads ∙ ap (λ x. plain (literal_of (without_object h') x)) parts ∙ literal-plain h' ps'

-- where chains lead, but for objects
abbrev pub plain_reach : Reach → Reach
plain_reach (Reaches t) = Reaches (plain t)
plain_reach Returns = Returns
plain_reach (Exceeds fault) = Exceeds fault

abbrev pub plain_asked : Asked Reach → Asked Reach
plain_asked (Decided reach) = Decided (plain_reach reach)
plain_asked (Lacks d) = Lacks d

module _ (known : Headers) where
  abbrev sized : (TypeData → Reaching) → Option TermFault → TypeData → Reaching
  sized go o t = elim o [ Some fault ↦ Done (Exceeds fault) | None ↦ go t ]

  sized-same : (go : TypeData → Reaching) (o : Option TermFault) (x y : TypeData) → plain_asked (run known (go x)) ≡ plain_asked (run known (go y)) → plain_asked (run known (sized go o x)) ≡ plain_asked (run known (sized go o y))
  sized-same go None x y e = e
  sized-same go (Some fault) x y e = refl

  on-same : (go : TypeData → Reaching) → ((x y : TypeData) → plain x ≡ plain y → plain_asked (run known (go x)) ≡ plain_asked (run known (go y)))
      → (t u : TypeData) → plain t ≡ plain u → (a b : Option TypeData) → option_map plain a ≡ option_map plain b → plain_asked (run known (on_with go t a)) ≡ plain_asked (run known (on_with go u b))
  on-same go each t u e None None f = ap (λ x. Decided (Reaches x)) e
  on-same go each t u e None (Some b) f = absurd (let never : option_map plain None ≡ Some (plain b) = f in cc)
  on-same go each t u e (Some a) None f = absurd (let never : Some (plain a) ≡ option_map plain None = f in cc)
  on-same go each t u e (Some a) (Some b) f =
      let same : plain a ≡ plain b = cc in
      ap (λ o. plain_asked (run known (sized go o a))) (fault-same a b same) ∙ sized-same go (size_fault b) a b (each a b same)

  asked-same : (f g : HeaderData → Reaching) (d : ℕ) → ((h : HeaderData) → plain_asked (run known (f h)) ≡ plain_asked (run known (g h))) → plain_asked (run known (Need d f)) ≡ plain_asked (run known (Need d g))
  asked-same f g d each = go (known d)
    where
      go : (o : Option HeaderData) → plain_asked (elim o as (λ _. Asked Reach) [ None ↦ Lacks d | Some h ↦ run known (f h) ]) ≡ plain_asked (elim o as (λ _. Asked Reach) [ None ↦ Lacks d | Some h ↦ run known (g h) ])
      go None = refl
      go (Some h) = each h

  path-same : (b : Bool) (d : ℕ) (f g : HeaderData → Reaching) → plain_asked (run known (Need d f)) ≡ plain_asked (run known (Need d g)) → plain_asked (run known (if b then Done Returns else Need d f)) ≡ plain_asked (run known (if b then Done Returns else Need d g))
  path-same true d f g e = refl
  path-same false d f g e = e

  step-same : (go : List Origin → TypeData → Reaching) → ((path : List Origin) (x y : TypeData) → plain x ≡ plain y → plain_asked (run known (go path x)) ≡ plain_asked (run known (go path y)))
      → (path : List Origin) (h : Head) (ps : Parts) (h' : Head) (ps' : Parts) → plain (made h ps) ≡ plain (made h' ps') → (o : Option Origin) → plain_asked (run known (step_by go path h ps o)) ≡ plain_asked (run known (step_by go path h' ps' o))
  step-same go each path h ps h' ps' e None = ap (λ x. Decided (Reaches x)) (literal-same h ps h' ps' e)
  step-same go each path h ps h' ps' e (Some o) =
      let heads : without_object h ≡ without_object h' = cc in
      let parts : plain_all ps ≡ plain_all ps' = cc in
      path-same (list_any (same_origin o) path) o.0.0 (λ header. on_with (go (o ∷ path)) (made h ps) (refers_to h ps header)) (λ header. on_with (go (o ∷ path)) (made h' ps') (refers_to h' ps' header))
      (asked-same (λ header. on_with (go (o ∷ path)) (made h ps) (refers_to h ps header)) (λ header. on_with (go (o ∷ path)) (made h' ps') (refers_to h' ps' header)) o.0.0
      (λ header. on-same (go (o ∷ path)) (each (o ∷ path)) (made h ps) (made h' ps') e (refers_to h ps header) (refers_to h' ps' header)
      (sym (refers-plain h ps header) ∙ ap (λ x. option_map plain (refers_to x (plain_all ps) header)) heads ∙ ap (λ x. option_map plain (refers_to (without_object h') x header)) parts ∙ refers-plain h' ps' header)))

  pub from-same : (n : ℕ) (path : List Origin) (x y : TypeData) → plain x ≡ plain y → plain_asked (run known (under_from n path x)) ≡ plain_asked (run known (under_from n path y))
  from-same zero path x y e = refl
  from-same (suc n) path (made h ps) (made h' ps') e =
      let heads : without_object h ≡ without_object h' = cc in
      let asks : declared_by h ≡ declared_by h' = sym (declared-plain h) ∙ ap declared_by heads ∙ declared-plain h' in
      step-same (under_from n) (from-same n) path h ps h' ps' e (declared_by h)
      ∙ ap (λ o. plain_asked (run known (step_by (under_from n) path h' ps' o))) asks

  pub under-plain : (t : TypeData) → plain_asked (run known (under (plain t))) ≡ plain_asked (run known (under t))
  under-plain t = from-same most_steps [] (plain t) t (plain-twice t)

interface-head : (h : Head) → is_interface_head (without_object h) ≡ is_interface_head h
interface-head (field f) = refl
interface-head (method m) = refl
interface-head h = refl

interface-plain : (t : TypeData) → is_interface (plain t) ≡ is_interface t
interface-plain (made h ps) = interface-head h

by-plain : (opening : TypeData → SetAsked) (t : TypeData) (known : Headers) (o : Option TypeData) → run known (named_set_by opening t (option_map plain o)) ≡ run known (named_set_by opening t o)
by-plain opening t known None = refl
by-plain opening t known (Some u) = let one = interface-plain u in let two = plain-twice u in
    let same : named_set_by opening t (Some (plain u)) ≡ named_set_by opening t (Some u) = cc in ap (run known) same

-- the question of a name over what its underlying type comes to
pub named-over : (known : Headers) (opening : TypeData → SetAsked) (p t : TypeData) → p ≡ plain t → run known (named_set opening p) ≡ asked_then (underlying_over known t) (λ o. run known (named_set_by opening p o))
named-over known opening p t e =
    run-then known (under p) (λ reach. named_set_by opening p (found_in reach))
    ∙ ap (λ x. asked_then (run known (under x)) (λ reach. run known (named_set_by opening p (found_in reach)))) e
    ∙ forgets (run known (under (plain t)))
    ∙ ap (λ x. asked_then x (λ reach. run known (named_set_by opening p (found_in reach)))) (under-plain known t)
    ∙ sym (forgets (run known (under t)))
    ∙ asks (run known (under t))
  where
    reached : (reach : Reach) → run known (named_set_by opening p (found_in reach)) ≡ run known (named_set_by opening p (found_in (plain_reach reach)))
    reached (Reaches u) = sym (by-plain opening p known (Some u))
    reached Returns = refl
    reached (Exceeds fault) = refl

    forgets : (x : Asked Reach) → asked_then x (λ reach. run known (named_set_by opening p (found_in reach))) ≡ asked_then (plain_asked x) (λ reach. run known (named_set_by opening p (found_in reach)))
    forgets (Decided reach) = reached reach
    forgets (Lacks d) = refl

    asks : (x : Asked Reach) → asked_then x (λ reach. run known (named_set_by opening p (found_in reach))) ≡ asked_then (form_asked x) (λ o. run known (named_set_by opening p o))
    asks (Decided reach) = refl
    asks (Lacks d) = refl

-- an interface to which a name leads is kept to the limits
abbrev Fits : TypeData → Type 0
Fits t = is_interface t ≡ true → size_fault t ≡ None

abbrev Ends : Asked Reach → Type 0
Ends asked = (u : TypeData) → asked ≡ Decided (Reaches u) → Fits u

literal-fits : (h : Head) (ps : Parts) → Fits (made h ps) → Fits (literal_of h ps)
literal-fits (basic B.Error) ps fits = λ _. refl
literal-fits (basic b) ps fits = fits
literal-fits h ps fits = fits

module _ (known : Headers) where
  ends-at : (t : TypeData) → Fits t → Ends (Decided (Reaches t))
  ends-at t fits u e = let same : t ≡ u = cc in subst Fits same fits

  ends-lacks : (d : ℕ) → Ends (Lacks d)
  ends-lacks d u e = absurd (let never : Lacks d ≡ Decided (Reaches u) = e in cc)

  ends-returns : Ends (Decided Returns)
  ends-returns u e = absurd (let never : Decided Returns ≡ Decided (Reaches u) = e in cc)

  ends-exceeds : (fault : TermFault) → Ends (Decided (Exceeds fault))
  ends-exceeds fault u e = absurd (let never : Decided (Exceeds fault) ≡ Decided (Reaches u) = e in cc)

  ends-on : (go : TypeData → Reaching) → ((t : TypeData) → Fits t → Ends (run known (go t))) → (t : TypeData) → Fits t → (o : Option TypeData) → Ends (run known (on_with go t o))
  ends-on go each t fits None = ends-at t fits
  ends-on go each t fits (Some next) = sized-ends (size_fault next) refl
    where
      sized-ends : (o : Option TermFault) → size_fault next ≡ o → Ends (run known (elim o [ Some fault ↦ Done (Exceeds fault) | None ↦ go next ]))
      sized-ends None e = each next (λ _. e)
      sized-ends (Some fault) e = ends-exceeds fault

  ends-step : (go : List Origin → TypeData → Reaching) → ((path : List Origin) (t : TypeData) → Fits t → Ends (run known (go path t))) → (path : List Origin) (h : Head) (ps : Parts) → Fits (made h ps) → (o : Option Origin) → Ends (run known (step_by go path h ps o))
  ends-step go each path h ps fits None = ends-at (literal_of h ps) (literal-fits h ps fits)
  ends-step go each path h ps fits (Some o) = on-path (list_any (same_origin o) path)
    where
      asked : (told : Option HeaderData) → Ends (elim told as (λ _. Asked Reach) [ None ↦ Lacks o.0.0 | Some header ↦ run known (on_with (go (o ∷ path)) (made h ps) (refers_to h ps header)) ])
      asked None = ends-lacks o.0.0
      asked (Some header) = ends-on (go (o ∷ path)) (each (o ∷ path)) (made h ps) fits (refers_to h ps header)

      on-path : (b : Bool) → Ends (run known (if b then Done Returns else Need o.0.0 (λ header. on_with (go (o ∷ path)) (made h ps) (refers_to h ps header))))
      on-path true = ends-returns
      on-path false = asked (known o.0.0)

  pub ends-from : (n : ℕ) (path : List Origin) (t : TypeData) → Fits t → Ends (run known (under_from n path t))
  ends-from zero path t fits = ends-returns
  ends-from (suc n) path (made h ps) fits = ends-step (under_from n) (ends-from n) path h ps fits (declared_by h)

depth-fits : (t : TypeData) → size_fault t ≡ None → depth t ≤ most_depth
depth-fits t e = grind arith

pub form-shallow : (tree : Term → TypeData) (known : Headers) (t : TypeData) → is_interface t ≡ false → (form : Form) → form_as tree form ≡ underlying_over known t → IsShallowForm tree form
form-shallow tree known t name F.Absent e = tt
form-shallow tree known t name (F.Unknown d) e = tt
form-shallow tree known t name (F.Is u) e = λ sure. depth-fits (tree u) (go (run known (under t)) refl e sure)
  where
    fits : Fits t
    fits sure = absurd (let never : false ≡ true = sym name ∙ sure in cc)

    go : (x : Asked Reach) → run known (under t) ≡ x → Decided (Some (tree u)) ≡ form_asked x → Fits (tree u)
    go (Lacks d) is f = absurd (let never : Decided (Some (tree u)) ≡ Lacks d = f in cc)
    go (Decided Returns) is f = absurd (let never : Decided (Some (tree u)) ≡ Decided None = f in cc)
    go (Decided (Exceeds fault)) is f = absurd (let never : Decided (Some (tree u)) ≡ Decided None = f in cc)
    go (Decided (Reaches v)) is f = let same : v ≡ tree u = cc in subst Fits same (ends-from known most_steps [] t fits v is)
