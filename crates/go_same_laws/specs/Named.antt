-- Objects that types name.
-- Says which types, headers and records name good objects only, whatever good is; which questions need the headers of such
-- objects only; and that what a question about types lacks is the header of one.
use Rattle.std.specs.Prelude.{◌≡◌, ℕ, Bool, Some, List, IfSome}
use Rattle.std.specs.List.{AllByRecursion}
use Rattle.go_num.specs.declared.value.Value.{Value}
use Rattle.go_term.specs.Types.{Head, named, param, TypeData, Parts, made, no_parts, more_parts}
use Rattle.go_judge.specs.Headers.{Headers}
use Rattle.go_judge.specs.Records.{HeaderData, ParamData, RecData, constant, variable, func, definition, alias}
use Rattle.go_judge.specs.Types.Forms.{found_in}
use Rattle.go_judge.specs.Types.TypeIdentity.{identical}
use Rattle.go_judge.specs.Types.UnderlyingType.{Reach, Reaches, under}
use Rattle.go_judge.specs.Quests.{Decided, Lacks, Quest, Done, Need, run}
use Rattle.go_constructs.specs.Operators.Matching.{are_matched}
use Rattle.go_constructs.specs.Operators.Representable.{representable}
use Rattle.go_constructs.specs.Operators.Sorts.{by_sort, by_sorts, sort_of}
use Rattle.go_constructs.specs.declared.sort.Sort.{Sort}

module _ (good : ℕ → Type 0) where
  -- a defined type by its object, a type parameter by that of its declaration
  abbrev pub NamesGood : Head → Type 0
  NamesGood (named d) = good d.0
  NamesGood (param d i) = good d.0
  NamesGood head = Unit {0}

  abbrev mutual
    pub NamesOnly : TypeData → Type 0
    NamesOnly (made head parts) = NamesGood head × NameOnly parts

    pub NameOnly : Parts → Type 0
    NameOnly no_parts = Unit {0}
    NameOnly (more_parts t ts) = NamesOnly t × NameOnly ts

  abbrev pub AreGoodParams : List ParamData → Type 0
  AreGoodParams params = AllByRecursion (λ p. NamesOnly p.constraint) params

  abbrev pub IsGoodHeader : HeaderData → Type 0
  IsGoodHeader (constant type value) = NamesOnly type
  IsGoodHeader (variable type) = NamesOnly type
  IsGoodHeader (func params type) = AreGoodParams params × NamesOnly type
  IsGoodHeader (definition params right methods) = AreGoodParams params × NamesOnly right
  IsGoodHeader (alias type) = NamesOnly type

  -- of the headers that are known those of good objects are good
  abbrev pub AreGood : Headers → Type 0
  AreGood headers = (d : ℕ) (h : HeaderData) → good d → headers d ≡ Some h → IsGoodHeader h

  abbrev pub IsGoodRecord : RecData → Type 0
  IsGoodRecord r = IfSome r.type NamesOnly

  -- where a chain ends
  abbrev pub ReachesGood : Reach → Type 0
  ReachesGood reach = IfSome (found_in reach) NamesOnly

  -- a question needs headers of good objects only, as long as those that it was given are good, and its answer is right
  abbrev pub AsksOnly : {A : Type 0} → (A → Type 0) → Quest HeaderData A → Type 0
  AsksOnly right (Done a) = right a
  AsksOnly right (Need d go_on) = good d × ((h : HeaderData) → IsGoodHeader h → AsksOnly right (go_on h))

  -- what a question lacks over these headers is the header of a good object
  abbrev pub LacksGood : {A : Type 0} → Headers → Quest HeaderData A → Type 0
  LacksGood headers quest = (d : ℕ) → run headers quest ≡ Lacks d → good d

  -- so it is with each question about types and records that name good objects only, and so does an underlying type
  pub record LacksNamed (headers : Headers) : Type 0 where
    pub of_under : (t : TypeData) → NamesOnly t → LacksGood headers (under t)
    pub underlying : (t u : TypeData) → NamesOnly t → run headers (under t) ≡ Decided (Reaches u) → NamesOnly u
    pub of_sort : (t : TypeData) → NamesOnly t → LacksGood headers (sort_of t)
    pub by_one : (x : RecData) (answer : Sort → Bool) → IsGoodRecord x → LacksGood headers (by_sort x answer)
    pub by_two : (x y : RecData) (answer : Sort → Sort → Bool) → IsGoodRecord x → IsGoodRecord y → LacksGood headers (by_sorts x y answer)
    pub of_representable : (v : Value) (t : TypeData) → NamesOnly t → LacksGood headers (representable v t)
    pub of_identical : (a b : TypeData) → NamesOnly a → NamesOnly b → LacksGood headers (identical a b)
    pub of_matched : (x y : RecData) → IsGoodRecord x → IsGoodRecord y → AllByRecursion (λ s. LacksGood headers s.holds) (are_matched x y).spots
