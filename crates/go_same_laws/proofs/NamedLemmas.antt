-- Questions that need the headers of good objects only: what they lack and what they come to; one after another; and that of the
-- underlying type, which is found by substitution and names good objects only.
use Rattle.std.proofs.Common.{◌≡◌, ℕ, zero, suc, Bool, true, false, if◌then◌else◌, Option, Some, None, List, [], ◌∷◌, IfSome, refl, subst}
use Rattle.std.specs.Prelude.{◌==◌, length, option_and_then, position, slice_get, unwrap_or}
use Rattle.std.specs.List.{AllByRecursion, list_any}
use Rattle.std.specs.Option.{option_map}
use Rattle.go_base.specs.declared.ids.ObjId.{ObjId}
use Rattle.go_term.specs.declared.basic.Basic.TheVariants as B
use Rattle.go_term.specs.Size.{size_fault}
use Rattle.go_term.specs.Substitution.{argument_for, is_param, put_at, subst_all}
use Rattle.go_term.specs.Substitution as S
use Rattle.go_term.specs.Types.{Head, basic, named, param, TypeData, Parts, made, no_parts, more_parts, list_of}
use Rattle.go_judge.specs.Headers.{Headers}
use Rattle.go_judge.specs.Records.{HeaderData, ParamData, func, definition}
use Rattle.go_judge.specs.Types.UnderlyingType.{Origin, Reaching, Returns, Exceeds, constraint_of, declared_by, literal_of, most_steps, on_with, params_from, refers_to, right_side, same_origin, step_by, under, under_from}
use Rattle.go_judge.specs.Quests.{Asked, Decided, Lacks, Quest, Done, Need, run, then_ask}
use Rattle.go_same_laws.specs.Named.{AreGood, AreGoodParams, AsksOnly, IsGoodHeader, NameOnly, NamesGood, NamesOnly, ReachesGood}

-- nothing is told of an answer
abbrev pub AnyOf : {A : Type 0} → A → Type 0
AnyOf a = Unit {0}

module _ (good : ℕ → Type 0) where
  -- QUESTIONS

  pub asks_so : {A : Type 0} (right fine : A → Type 0) → ((a : A) → right a → fine a) → (q : Quest HeaderData A) → AsksOnly good right q → AsksOnly good fine q
  asks_so right fine so (Done a) all = so a all
  asks_so right fine so (Need d go_on) all = (all.0, λ h is. asks_so right fine so (go_on h) (all.1 h is))

  pub asks_then : {A B : Type 0} (right : A → Type 0) (fine : B → Type 0) (q : Quest HeaderData A) (next : A → Quest HeaderData B)
      → AsksOnly good right q → ((a : A) → right a → AsksOnly good fine (next a)) → AsksOnly good fine (then_ask q next)
  asks_then right fine (Done a) next first rest = rest a first
  asks_then right fine (Need d go_on) next first rest = (first.0, λ h is. asks_then right fine (go_on h) next (first.1 h is) rest)

  module _ (headers : Headers) (known : AreGood good headers) where
    pub lacks_good : {A : Type 0} (right : A → Type 0) (q : Quest HeaderData A) → AsksOnly good right q → (d : ℕ) → run headers q ≡ Lacks d → good d
    lacks_good right (Done a) all d e = absurd (let never : Decided a ≡ Lacks d = e in cc never)
    lacks_good {A} right (Need n go_on) all d e = go (headers n) refl (λ h is. lacks_good right (go_on h) (all.1 h is) d) e
      where
        lacks : ℕ → Asked A
        lacks x = Lacks x

        go : (o : Option HeaderData) → headers n ≡ o → ((h : HeaderData) → IsGoodHeader good h → run headers (go_on h) ≡ Lacks d → good d)
            → elim o as (λ _. Asked A) [ None ↦ Lacks n | Some h ↦ run headers (go_on h) ] ≡ Lacks d → good d
        go None is rest f = let same : lacks n ≡ lacks d = f in let eq : n ≡ d = cc in subst good eq all.0
        go (Some h) is rest f = rest h (known n h all.0 is) f

    pub comes_right : {A : Type 0} (right : A → Type 0) (q : Quest HeaderData A) → AsksOnly good right q → (a : A) → run headers q ≡ Decided a → right a
    comes_right right (Done b) all a e = let is : b ≡ a = cc in subst right is all
    comes_right {A} right (Need n go_on) all a e = go (headers n) refl (λ h is. comes_right right (go_on h) (all.1 h is) a) e
      where
        go : (o : Option HeaderData) → headers n ≡ o → ((h : HeaderData) → IsGoodHeader good h → run headers (go_on h) ≡ Decided a → right a)
            → elim o as (λ _. Asked A) [ None ↦ Lacks n | Some h ↦ run headers (go_on h) ] ≡ Decided a → right a
        go None is rest f = absurd (let never : Lacks n ≡ Decided a = f in cc never)
        go (Some h) is rest f = rest h (known n h all.0 is) f

  -- SUBSTITUTION

  pub each_names : (ts : Parts) → NameOnly good ts → AllByRecursion (NamesOnly good) (list_of ts)
  each_names no_parts all = tt
  each_names (more_parts t ts) all = (all.0, each_names ts all.1)

  at_place : (ts : List TypeData) → AllByRecursion (NamesOnly good) ts → (i : ℕ) (t : TypeData) → NamesOnly good t → NamesOnly good (unwrap_or (slice_get ts i) t)
  at_place [] all i t names = names
  at_place (u ∷ us) all zero t names = all.0
  at_place (u ∷ us) all (suc i) t names = at_place us all.1 i t names

  module _ (from : List (ObjId × ℕ)) (to : List TypeData) (all : AllByRecursion (NamesOnly good) to) where
    at_some : (o : Option ℕ) (t : TypeData) → NamesOnly good t → NamesOnly good (unwrap_or (option_and_then (slice_get to) o) t)
    at_some None t names = names
    at_some (Some i) t names = at_place to all i t names

    put_names : (head : Head) (t : TypeData) → NamesOnly good t → NamesOnly good (put_at from to head t)
    put_names (param d i) t names = at_some (position (is_param d i) from) t names
    put_names head t names = names

    mutual
      pub subst_names : (t : TypeData) → NamesOnly good t → NamesOnly good (S.subst from to t)
      subst_names (made head parts) names = put_names head (made head (subst_all from to parts)) (names.0, subst_all_names parts names.1)

      pub subst_all_names : (ts : Parts) → NameOnly good ts → NameOnly good (subst_all from to ts)
      subst_all_names no_parts names = tt
      subst_all_names (more_parts t ts) names = (subst_names t names.0, subst_all_names ts names.1)

  -- THE TYPE TO WHICH A TYPE REFERS

  if_names : (b : Bool) (t : TypeData) → NamesOnly good t → IfSome (if b then Some t else None) (NamesOnly good)
  if_names true t names = names
  if_names false t names = tt

  right_names : (d : ObjId) (args : List TypeData) → AllByRecursion (NamesOnly good) args → (h : HeaderData) → IsGoodHeader good h → IfSome (right_side d args h) (NamesOnly good)
  right_names d args all (definition params right methods) is =
      if_names (length params == length args) (S.subst (params_from d 0 params) args right) (subst_names (params_from d 0 params) args all right is.1)
  right_names d args all h is = tt

  at_param : (params : List ParamData) → AreGoodParams good params → (i : ℕ) → IfSome (option_map (λ (p : ParamData). p.constraint) (slice_get params i)) (NamesOnly good)
  at_param [] all i = tt
  at_param (p ∷ ps) all zero = all.0
  at_param (p ∷ ps) all (suc i) = at_param ps all.1 i

  constraint_names : (i : ℕ) (h : HeaderData) → IsGoodHeader good h → IfSome (constraint_of i h) (NamesOnly good)
  constraint_names i (definition params right methods) is = at_param params is.0 i
  constraint_names i (func params type) is = at_param params is.0 i
  constraint_names i h is = tt

  refers_names : (head : Head) (parts : Parts) → NameOnly good parts → (h : HeaderData) → IsGoodHeader good h → IfSome (refers_to head parts h) (NamesOnly good)
  refers_names (named d) parts all h is = right_names d (list_of parts) (each_names parts all) h is
  refers_names (param d i) parts all h is = constraint_names i h is
  refers_names head parts all h is = tt

  -- THE UNDERLYING TYPE

  literal_names : (head : Head) (parts : Parts) → NamesOnly good (made head parts) → NamesOnly good (literal_of head parts)
  literal_names (basic B.Error) parts names = (tt, ((tt, ((tt, tt), ((tt, ((tt, tt), tt)), tt))), tt))
  literal_names head parts names = names

  origin_good : (head : Head) → NamesGood good head → IfSome (declared_by head) (λ o. good o.0.0)
  origin_good (named d) is = is
  origin_good (param d i) is = is
  origin_good head is = tt

  on_asks : (go : TypeData → Reaching) → ((t : TypeData) → NamesOnly good t → AsksOnly good (ReachesGood good) (go t))
      → (t : TypeData) → NamesOnly good t → (o : Option TypeData) → IfSome o (NamesOnly good) → AsksOnly good (ReachesGood good) (on_with go t o)
  on_asks go goes t names None all = names
  on_asks go goes t names (Some next) all = elim (size_fault next) as (λ o. AsksOnly good (ReachesGood good) (elim o as (λ _. Reaching) [ Some fault ↦ Done (Exceeds fault) | None ↦ go next ])) [
    | Some fault ↦ tt
    | None ↦ goes next all
  ]

  step_asks : (go : List Origin → TypeData → Reaching) → ((path : List Origin) (t : TypeData) → NamesOnly good t → AsksOnly good (ReachesGood good) (go path t))
      → (path : List Origin) (head : Head) (parts : Parts) → NamesOnly good (made head parts) → (o : Option Origin) → IfSome o (λ o. good o.0.0)
      → AsksOnly good (ReachesGood good) (step_by go path head parts o)
  step_asks go goes path head parts names None is = literal_names head parts names
  step_asks go goes path head parts names (Some o) is = at (list_any (same_origin o) path)
    where
      at : (b : Bool) → AsksOnly good (ReachesGood good) (if b then Done Returns else Need o.0.0 (λ header. on_with (go (o ∷ path)) (made head parts) (refers_to head parts header)))
      at true = tt
      at false = (is, λ h fine. on_asks (go (o ∷ path)) (goes (o ∷ path)) (made head parts) names (refers_to head parts h) (refers_names head parts names.1 h fine))

  from_asks : (n : ℕ) (path : List Origin) (t : TypeData) → NamesOnly good t → AsksOnly good (ReachesGood good) (under_from n path t)
  from_asks zero path t names = tt
  from_asks (suc n) path (made head parts) names = step_asks (under_from n) (from_asks n) path head parts names (declared_by head) (origin_good head names.0)

  pub under_asks : (t : TypeData) → NamesOnly good t → AsksOnly good (ReachesGood good) (under t)
  under_asks t names = from_asks most_steps [] t names
