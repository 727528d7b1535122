-- What is asked of a node whose operands have records that name good objects only, and a type and a value where they are those of
-- constants: no header but that of a good object; and its record is such a one. So it is of constructs by their operands, of literals,
-- names, selectors and parentheses.
use Rattle.std.proofs.Common.{◌≡◌, ℕ, ◌+◌, Bool, false, true, if◌then◌else◌, Option, Some, None, List, [], ◌∷◌, refl, subst}
use Rattle.std.specs.Prelude.{IsSome}
use Rattle.std.specs.List.{AllByRecursion}
use Rattle.std.proofs.lemmas.Option.{none-some, same_Some}
use Rattle.go_base.specs.declared.ids.ObjId.{ObjId}
use Rattle.go_constructs.specs.declared.meaning.Meaning.{Meaning}
use Rattle.go_constructs.specs.declared.meaning.Meaning.TheVariants.{AnyType, BasicType, Declared, DefinedType, Iota, Other, Predeclared, Truth}
use Rattle.go_constructs.specs.Literal.{integer_literal, rune_literal, string_literal}
use Rattle.go_constructs.specs.Name.{name}
use Rattle.go_constructs.specs.Parentheses.{parentheses}
use Rattle.go_constructs.specs.Selector.{selector}
use Rattle.go_judge.specs.Judged.{Asks, Construct, RuleTest, SpotTest}
use Rattle.go_judge.specs.Operands.{is_constant, leaf, of_all, of_one, of_two, spots_from}
use Rattle.go_judge.specs.Quests.{Done, Quest}
use Rattle.go_judge.specs.Records.{HeaderData, RecData, alias, constant, definition, func, named_record, variable}
use Rattle.go_same_laws.specs.Named.{AsksOnly, IsGoodHeader, IsGoodRecord}
use Rattle.go_same_laws.proofs.NamedLemmas.{AnyOf}
use Rattle.go_laws.proofs.Denoting.{meant_in}

-- a record that has both, where it is that of a constant
abbrev pub IsWhole : RecData → Type 0
IsWhole r = is_constant r ≡ true → IsSome r.type × IsSome r.value

pub not_constant : {A : Type 0} → false ≡ true → A
not_constant e = absurd (let never : false ≡ true = e in cc)

module _ (good : ℕ → Type 0) where
  abbrev pub IsFine : RecData → Type 0
  IsFine r = IsGoodRecord good r × IsWhole r

  -- what a rule asks at its places, and what several ask
  abbrev pub IsGoodTest : RuleTest HeaderData → Type 0
  IsGoodTest test = AllByRecursion (λ (p : SpotTest HeaderData). AsksOnly good AnyOf p.holds) test.spots

  abbrev pub AreGoodTests : List (RuleTest HeaderData) → Type 0
  AreGoodTests tests = AllByRecursion IsGoodTest tests

  pub record IsPlain (a : Asks HeaderData RecData) : Type 0 where
    pub tests : AreGoodTests a.tests
    pub gives : AsksOnly good IsFine a.gives

  -- whatever its operands are
  abbrev pub ArePlain : Construct HeaderData RecData → Type 0
  ArePlain c = (records : List RecData) (a : Asks HeaderData RecData) → AllByRecursion IsFine records → c.asks records ≡ Some a → IsPlain a

  -- where the record is there at once
  pub done : (tests : List (RuleTest HeaderData)) (x : RecData) → AreGoodTests tests → IsFine x → IsPlain (record { tests = tests; gives = Done x })
  done tests x asks fine = record { tests = asks; gives = fine }

  -- tests of operands that need no header
  pub each_good : (holds : RecData → Bool) (place : ℕ) (rs : List RecData) → AllByRecursion (λ (p : SpotTest HeaderData). AsksOnly good AnyOf p.holds) (spots_from holds place rs)
  each_good holds place [] = tt
  each_good holds place (r ∷ rs) = (tt, each_good holds (place + 1) rs)

  -- one of two questions
  pub either_asks : {A : Type 0} (b : Bool) (p q : Quest HeaderData A) → AsksOnly good AnyOf p → AsksOnly good AnyOf q → AsksOnly good AnyOf (if b then p else q)
  either_asks true p q first second = first
  either_asks false p q first second = second

  -- CONSTRUCTS BY THEIR OPERANDS

  pub leaf_plain : (a : Asks HeaderData RecData) → IsPlain a → ArePlain (leaf a)
  leaf_plain a is [] b fine e = subst IsPlain (same_Some a b e) is
  leaf_plain a is (x ∷ xs) b fine e = absurd (none-some b e)

  pub one_plain : (asks : RecData → Asks HeaderData RecData) → ((x : RecData) → IsFine x → IsPlain (asks x)) → ArePlain (of_one asks)
  one_plain asks is [] b fine e = absurd (none-some b e)
  one_plain asks is (x ∷ []) b fine e = subst IsPlain (same_Some (asks x) b e) (is x fine.0)
  one_plain asks is (x ∷ (y ∷ ys)) b fine e = absurd (none-some b e)

  pub two_plain : (asks : RecData → RecData → Asks HeaderData RecData) → ((x y : RecData) → IsFine x → IsFine y → IsPlain (asks x y)) → ArePlain (of_two asks)
  two_plain asks is [] b fine e = absurd (none-some b e)
  two_plain asks is (x ∷ []) b fine e = absurd (none-some b e)
  two_plain asks is (x ∷ (y ∷ [])) b fine e = subst IsPlain (same_Some (asks x y) b e) (is x y fine.0 fine.1.0)
  two_plain asks is (x ∷ (y ∷ (z ∷ zs))) b fine e = absurd (none-some b e)

  pub all_plain : (many : ℕ) (asks : List RecData → Asks HeaderData RecData) → ((rs : List RecData) → AllByRecursion IsFine rs → IsPlain (asks rs)) → ArePlain (of_all many asks)
  all_plain many asks is records b fine e = subst IsPlain (same_Some (asks records) b e) (is records fine)

  -- LITERALS

  pub integer_plain : (text : List ℕ) → ArePlain (integer_literal text)
  integer_plain text = leaf_plain _ (record { tests = ((tt, tt), tt); gives = ((tt, tt), (λ is. (refl, refl))) })

  pub rune_plain : (text : List ℕ) → ArePlain (rune_literal text)
  rune_plain text = leaf_plain _ (record { tests = ((tt, tt), tt); gives = ((tt, tt), (λ is. (refl, refl))) })

  pub string_plain : (text : List ℕ) → ArePlain (string_literal text)
  string_plain text = leaf_plain _ (record { tests = ((tt, tt), tt); gives = ((tt, tt), (λ is. (refl, refl))) })

  -- NAMES

  named_fine : (object : ObjId) → good object.0 → (h : HeaderData) → IsGoodHeader good h → IsFine (named_record object h)
  named_fine object is (constant type value) known = (known, λ both. (refl, refl))
  named_fine object is (variable type) known = (known, not_constant)
  named_fine object is (func params type) known = (known.1, not_constant)
  named_fine object is (definition params right methods) known = ((is, tt), not_constant)
  named_fine object is (alias type) known = (known, not_constant)

  -- an identifier that means a declaration asks for its header
  pub name_plain : (m : Meaning) → ((d : ObjId) → meant_in m ≡ Some d → good d.0) → ArePlain (name m)
  name_plain (Declared object) means = leaf_plain _ (record { tests = tt; gives = (means object refl, named_fine object (means object refl)) })
  name_plain (DefinedType object) means = leaf_plain _ (record { tests = tt; gives = ((means object refl, tt), not_constant) })
  name_plain (BasicType object basic) means = leaf_plain _ (record { tests = tt; gives = ((tt, tt), not_constant) })
  name_plain (AnyType object) means = leaf_plain _ (record { tests = tt; gives = ((tt, tt), not_constant) })
  name_plain (Truth object truth) means = leaf_plain _ (record { tests = tt; gives = ((tt, tt), (λ is. (refl, refl))) })
  name_plain (Iota object (Some n)) means = leaf_plain _ (record { tests = ((tt, tt), tt); gives = ((tt, tt), (λ is. (refl, refl))) })
  name_plain (Iota object None) means = leaf_plain _ (record { tests = ((tt, tt), tt); gives = ((tt, tt), (λ is. (refl, refl))) })
  name_plain Predeclared means = leaf_plain _ (record { tests = ((tt, tt), tt); gives = ((tt, tt), (λ is. (refl, refl))) })
  name_plain Other means = λ records b fine e. absurd (none-some b e)

  pub selector_plain : (m : Meaning) → ((d : ObjId) → meant_in m ≡ Some d → good d.0) → ArePlain (selector m)
  selector_plain (Declared object) means = name_plain (Declared object) means
  selector_plain (DefinedType object) means = name_plain (DefinedType object) means
  selector_plain (BasicType object basic) means = name_plain (BasicType object basic) means
  selector_plain (AnyType object) means = name_plain (AnyType object) means
  selector_plain (Truth object truth) means = name_plain (Truth object truth) means
  selector_plain (Iota object n) means = name_plain (Iota object n) means
  selector_plain Predeclared means = name_plain Predeclared means
  selector_plain Other means = one_plain _ (λ x fine. done _ x ((tt, tt), tt) fine)

  -- PARENTHESES

  pub parentheses_plain : ArePlain parentheses
  parentheses_plain = one_plain _ (λ x fine. done [] x tt fine)
