-- The search for what a type embeds: the types that were found, one after another, how many of these were looked at, and
-- the objects whose types need not be opened again.
use Rattle.std.specs.Prelude.{◌≡◌, ℕ, ◌<◌, Bool, true, Option, Some, List, [], ◌∷◌, ◌++◌, Contains, map, option_to_list, slice_get}
use Rattle.std.specs.List.{AllByRecursion}
use Rattle.indexmap.specs.IndexSet.{contains}
use Rattle.go_base.specs.declared.ids.ObjId.{ObjId}
use Rattle.go_module.specs.Scopes.{same_object}
use Rattle.go_term.specs.Types.{TypeData, made, named, no_parts}
use Rattle.go_term.specs.declared.term.Term.{Term}
use Rattle.go_model.specs.Obligations.Embedded.{Embeds, IsUnderlying, embedded_in}
use Rattle.go_judge.specs.Headers.{Headers}
use Rattle.go_judge.specs.Types.Forms.{underlying_over}
use Rattle.go_judge.specs.Quests.{Asked, Decided, Lacks}
use Rattle.go_judge.specs.declared.form.Form.{Form}
use Rattle.go_judge.specs.declared.form.Form.TheVariants as F
use Rattle.go_obligations.specs.declared.opened.Opened.{Opened}

-- an object is among those that were opened
abbrev pub is_opened : Opened → ObjId → Bool
is_opened opened d = contains same_object opened.objects d

-- the type that an answer has, and the underlying type of a type over headers, where there is one
abbrev pub types_of_form : Form → List Term
types_of_form (F.Is t) = t ∷ []
types_of_form F.Absent = []
types_of_form (F.Unknown d) = []

abbrev pub types_asked : Asked (Option TypeData) → List TypeData
types_asked (Decided t) = option_to_list t
types_asked (Lacks d) = []

abbrev pub underlying_types : Headers → TypeData → List TypeData
underlying_types headers t = types_asked (underlying_over headers t)

-- over these headers the underlying type of the type of each opened object, without type arguments, is found
abbrev pub AreOpened : Headers → List TypeData → (ObjId → Bool) → Type 0
AreOpened headers found opened = (d : ObjId) → opened d ≡ true → (u : TypeData) → IsUnderlying headers (made (named d) no_parts) u → Contains found u

-- the types that are found are a judge's own, and what was opened is among them
pub record IsSearch (headers : Headers) (is_own : Term → Type 0) (tree : Term → TypeData) (found : List Term) (is_open : ObjId → Bool) : Type 0 where
  pub own : AllByRecursion is_own found
  pub opened : AreOpened headers (map tree found) is_open

-- the underlying type of one of these types
pub record IsUnderlyingOf (headers : Headers) (types : List TypeData) (u : TypeData) : Type 0 where
  pub type : TypeData
  pub among : Contains types type
  pub is : IsUnderlying headers type u

-- these types were opened: the underlying types of all are found, and nothing else was added
pub record Opens (headers : Headers) (types found found' : List TypeData) : Type 0 where
  pub added : List TypeData
  pub behind : found' ≡ found ++ added
  pub only : (u : TypeData) → Contains added u → IsUnderlyingOf headers types u
  pub all : (t u : TypeData) → Contains types t → IsUnderlying headers t u → Contains found' u

-- the first so many of the found types were looked at, beginning with t: what these embed is found
pub record IsSearched (headers : Headers) (t : TypeData) (found : List TypeData) (next : ℕ) : Type 0 where
  pub begins : Contains found t
  pub reached : (u : TypeData) → Contains found u → Embeds headers t u
  pub looked : (i : ℕ) (u e v : TypeData) → i < next → slice_get found i ≡ Some u → Contains (embedded_in u) e → IsUnderlying headers e v → Contains found v
