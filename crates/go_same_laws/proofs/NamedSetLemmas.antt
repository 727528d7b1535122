-- What an interface has, where it names good objects only: the types of its methods and terms do so too, and only headers of good
-- objects are needed.
use Rattle.std.proofs.Common.{ℕ, zero, suc, Bool, true, false, if◌then◌else◌, Option, Some, None, List, ◌++◌, map, IfSome}
use Rattle.std.specs.List.{AllByRecursion}
use Rattle.std.specs.Option.{option_map}
use Rattle.go_term.specs.declared.basic.Basic.{Basic}
use Rattle.go_term.specs.declared.basic.Basic.TheVariants as B
use Rattle.go_term.specs.Types.{Head, basic, field, interface_type, named, param, method, union, union_term, TypeData, Parts, made, no_parts, more_parts}
use Rattle.go_judge.specs.Types.Forms.{found_in}
use Rattle.go_judge.specs.Types.TypeSets.{MethodData, SetAsked, SetData, TermData, basic_set, both_sets, either_set, element_set, elements_set, is_interface, joined, joined_to, named_set, named_set_by, opened_method, opened_set, opened_term, plain, plain_all, plain_term_by, set_of, term_set, tilde_set, type_set, union_set, union_term_set, without_object}
use Rattle.go_judge.specs.Types.UnderlyingType.{under}
use Rattle.go_judge.specs.Quests.{Done, then_ask}
use Rattle.go_same_laws.specs.Named.{AsksOnly, NameOnly, NamesGood, NamesOnly, ReachesGood}
use Rattle.go_same_laws.proofs.EveryLemmas.{every_both, every_so, every_to_flat, every_to_map}
use Rattle.go_same_laws.proofs.NamedLemmas.{asks_then, under_asks}

module _ (good : ℕ → Type 0) where
  -- TYPES WITHOUT OBJECTS

  head_plain : (head : Head) → NamesGood good head → NamesGood good (without_object head)
  head_plain (field f) is = tt
  head_plain (method m) is = tt
  head_plain head is = is

  mutual
    pub plain_names : (t : TypeData) → NamesOnly good t → NamesOnly good (plain t)
    plain_names (made head parts) names = (head_plain head names.0, all_plain_names parts names.1)

    all_plain_names : (ts : Parts) → NameOnly good ts → NameOnly good (plain_all ts)
    all_plain_names no_parts names = tt
    all_plain_names (more_parts t ts) names = (plain_names t names.0, all_plain_names ts names.1)

  -- SETS

  abbrev pub MethodNames : MethodData → Type 0
  MethodNames m = NamesOnly good m.type

  abbrev pub TermNames : TermData → Type 0
  TermNames t = NamesOnly good t.type

  abbrev pub UnionNames : List TermData → Type 0
  UnionNames u = AllByRecursion TermNames u

  abbrev pub SetNames : SetData → Type 0
  SetNames s = AllByRecursion MethodNames s.methods × AllByRecursion UnionNames s.unions

  -- a set, where there is one
  abbrev pub MayName : Option SetData → Type 0
  MayName o = IfSome o SetNames

  abbrev pub Gives : SetAsked → Type 0
  Gives q = AsksOnly good MayName q

  both_names : (a b : SetData) → SetNames a → SetNames b → SetNames (both_sets a b)
  both_names a b first second = (
    every_both MethodNames a.methods b.methods first.0 second.0,
    every_both UnionNames a.unions b.unions first.1 second.1,
  )

  either_names : (a b : SetData) → SetNames a → SetNames b → SetNames (either_set a b)
  either_names a b first second =
      let beside : (u : List TermData) → UnionNames u → AllByRecursion UnionNames (map (λ v. u ++ v) b.unions) =
      λ u here. every_to_map UnionNames (λ v. u ++ v) b.unions (every_so UnionNames (λ v. UnionNames (u ++ v)) (λ v there. every_both TermNames u v here there) b.unions second.1) in
      (tt, every_to_flat UnionNames (λ u. map (λ v. u ++ v) b.unions) a.unions (every_so UnionNames (λ u. AllByRecursion UnionNames (map (λ v. u ++ v) b.unions)) beside a.unions first.1))

  opened_names : (s : SetData) → SetNames s → SetNames (opened_set s)
  opened_names s all = (
    every_to_map MethodNames opened_method s.methods all.0,
    every_to_map UnionNames (map opened_term) s.unions (every_so UnionNames (λ u. UnionNames (map opened_term u)) (λ u here. every_to_map TermNames opened_term u here) s.unions all.1),
  )

  one_term : (tilde : Bool) (t : TypeData) → NamesOnly good t → SetNames (term_set tilde t)
  one_term tilde t names = (tt, ((names, tt), tt))

  basic_names : (b : Basic) → SetNames (basic_set b)
  basic_names B.Error = (((tt, ((tt, tt), ((tt, ((tt, tt), tt)), tt))), tt), tt)
  basic_names B.Comparable = (tt, tt)
  basic_names b = (tt, (((tt, tt), tt), tt))

  opened_may : (o : Option SetData) → MayName o → MayName (option_map opened_set o)
  opened_may None all = tt
  opened_may (Some s) all = opened_names s all

  -- QUESTIONS

  module _ (join : SetData → SetData → SetData) (keeps : (a b : SetData) → SetNames a → SetNames b → SetNames (join a b)) where
    join_may : (x : SetData) → SetNames x → (o : Option SetData) → MayName o → MayName (option_map (join x) o)
    join_may x here None there = tt
    join_may x here (Some y) there = keeps x y here there

    joined_to_gives : (b : SetAsked) → Gives b → (o : Option SetData) → MayName o → Gives (joined_to join b o)
    joined_to_gives b second None here = tt
    joined_to_gives b second (Some x) here = asks_then good MayName MayName b (λ o. Done (option_map (join x) o)) second (λ o there. join_may x here o there)

    joined_gives : (a b : SetAsked) → Gives a → Gives b → Gives (joined join a b)
    joined_gives a b first second = asks_then good MayName MayName a (joined_to join b) first (λ o here. joined_to_gives b second o here)

  module _ (opening : TypeData → SetAsked) (opens : (u : TypeData) → NamesOnly good u → Gives (opening u)) where
    opened_gives : (b : Bool) (t u : TypeData) → NamesOnly good t → NamesOnly good u
        → Gives (if b then then_ask (opening (plain u)) (λ s. Done (option_map opened_set s)) else Done (Some (term_set false t)))
    opened_gives true t u names found = asks_then good MayName MayName (opening (plain u)) (λ s. Done (option_map opened_set s)) (opens (plain u) (plain_names u found)) (λ o here. opened_may o here)
    opened_gives false t u names found = one_term false t names

    named_by_gives : (t : TypeData) → NamesOnly good t → (o : Option TypeData) → IfSome o (NamesOnly good) → Gives (named_set_by opening t o)
    named_by_gives t names None found = tt
    named_by_gives t names (Some u) found = opened_gives (is_interface u) t u names found

    named_gives : (t : TypeData) → NamesOnly good t → Gives (named_set opening t)
    named_gives t names =
        asks_then good (ReachesGood good) MayName (under t) (λ reach. named_set_by opening t (found_in reach)) (under_asks good t names) (λ reach found. named_by_gives t names (found_in reach) found)

    term_gives : (head : Head) (a : SetAsked) (t : TypeData) → NamesOnly good t → Gives a → Gives (plain_term_by opening a head t)
    term_gives interface_type a t names elements = elements
    term_gives (basic b) a t names elements = basic_names b
    term_gives (named d) a t names elements = named_gives t names
    term_gives (param d i) a t names elements = named_gives t names
    term_gives head a t names elements = one_term false t names

    tilde_gives : (t : TypeData) → NamesOnly good t → Gives (tilde_set opening t)
    tilde_gives (made (param d i) parts) names = named_gives (made (param d i) parts) names
    tilde_gives (made head parts) names = one_term true (made head parts) names

    mutual
      elements_give : (ts : Parts) → NameOnly good ts → Gives (elements_set opening ts)
      elements_give no_parts names = (tt, tt)
      elements_give (more_parts t ts) names = joined_gives both_sets both_names (element_set opening t) (elements_set opening ts) (element_gives t names.0) (elements_give ts names.1)

      element_gives : (t : TypeData) → NamesOnly good t → Gives (element_set opening t)
      element_gives (made (method m) parts) names = (((tt, names.1), tt), tt)
      element_gives (made union terms) names = union_gives terms names.1
      element_gives (made head parts) names = (tt, tt)

      union_gives : (ts : Parts) → NameOnly good ts → Gives (union_set opening ts)
      union_gives no_parts names = (tt, tt)
      union_gives (more_parts t no_parts) names = union_term_gives t names.0
      union_gives (more_parts t (more_parts u us)) names =
          joined_gives either_set either_names (union_term_set opening t) (union_set opening (more_parts u us)) (union_term_gives t names.0) (union_gives (more_parts u us) names.1)

      union_term_gives : (t : TypeData) → NamesOnly good t → Gives (union_term_set opening t)
      union_term_gives (made (union_term true) (more_parts t no_parts)) names = tilde_gives t names.1.0
      union_term_gives (made (union_term false) (more_parts t no_parts)) names = type_gives t names.1.0
      union_term_gives (made head parts) names = (tt, tt)

      type_gives : (t : TypeData) → NamesOnly good t → Gives (type_set opening t)
      type_gives (made head parts) names = term_gives head (elements_set opening parts) (made head parts) names (elements_give parts names.1)

  pub set_gives : (n : ℕ) (t : TypeData) → NamesOnly good t → Gives (set_of n t)
  set_gives zero = type_gives (λ t. Done None) (λ u names. tt)
  set_gives (suc n) = type_gives (set_of n) (set_gives n)
