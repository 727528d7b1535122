-- What a right side makes of the open nodes: it puts one node into the innermost of them, or one in place of the
-- node read last, and leaves those round it. Of that node it says what the kind tells.
use Rattle.std.proofs.Common.{◌≡◌, Bool, true, false, List, [], ◌∷◌, cond, Option, None, Some, ◌&&◌, ◌||◌}
use Rattle.go_tree.specs.declared.node_kind.NodeKind.{NodeKind}
use Rattle.go_tree.specs.declared.node_kind.NodeKind.TheVariants as k
use Rattle.go_tree.specs.Tree.{Tree, kind_of}
use Rattle.go_tree.specs.Grammar.RightSide.{RightSide, Do, Call, Nothing, Seq, Or, Many, When, Act, Pass, Open, Reopen, Adopt, CheckType, Close}
use Rattle.go_tree.proofs.ShapeLemmas.{take_needed, meet, covers}
use Rattle.go_tree.proofs.DecidedTests.{implied}

-- what the kind of a tree tells of whether it is written as a type is
pub data Sort : Type 0 where
  -- `x` and `x.y`
  Named : Sort
  -- its parts decide
  ByParts : Sort
  ChanLiteral : Sort
  -- a type that begins with a word or `[`
  TypeLiteral : Sort
  -- no type
  Other : Sort

abbrev pub sort_of : NodeKind → Sort
sort_of k.Name = Named
sort_of k.SelectorExpr = Named
sort_of k.IndexExpr = ByParts
sort_of k.ParenExpr = ByParts
sort_of k.StarExpr = ByParts
sort_of k.ArrowExpr = ByParts
sort_of k.ArrayType = TypeLiteral
sort_of k.EllipsisArrayType = TypeLiteral
sort_of k.SliceType = TypeLiteral
sort_of k.MapType = TypeLiteral
sort_of k.ChanType = ChanLiteral
sort_of k.FuncType = TypeLiteral
sort_of k.StructType = TypeLiteral
sort_of k.InterfaceType = TypeLiteral
sort_of _ = Other

-- some sorts: of each whether it is one of them
pub data Sorts : Type 0 where
  sorts : (named by_parts chan literal other : Bool) → Sorts

abbrev pub has : Sorts → Sort → Bool
has (sorts a b c d e) Named = a
has (sorts a b c d e) ByParts = b
has (sorts a b c d e) ChanLiteral = c
has (sorts a b c d e) TypeLiteral = d
has (sorts a b c d e) Other = e

abbrev pub any_sort : Sorts
any_sort = sorts true true true true true

abbrev pub nameless : Sorts
nameless = sorts false true true true true

abbrev pub no_type : Sorts
no_type = sorts false false false false true

abbrev pub Is : Sorts → Tree → Type 0
Is c t = has c (sort_of (kind_of t)) ≡ true

abbrev pub only : Sort → Sorts
only Named = sorts true false false false false
only ByParts = sorts false true false false false
only ChanLiteral = sorts false false true false false
only TypeLiteral = sorts false false false true false
only Other = sorts false false false false true

abbrev pub join_sorts : Sorts → Sorts → Sorts
join_sorts (sorts a b c d e) (sorts f g h i j) = sorts (a || f) (b || g) (c || h) (d || i) (e || j)

abbrev pub within : Sorts → Sorts → Bool
within (sorts a b c d e) (sorts f g h i j) = implied a f && (implied b g && (implied c h && (implied d i && implied e j)))

-- The open nodes that a reading has to do with, the innermost first: whether each surely has a part; and the one
-- round them, with what is known of its parts that are new, the newest first.
pub data Shape : Type 0 where
  stack : List Bool → List Sorts → Shape

-- what a production makes of them; the innermost ones, of which some need a part, are ended
pub data Effect : Type 0 where
  -- the node round them has one more part
  Adds : List Bool → Sorts → Effect
  -- its newest part is another
  Turns : List Bool → Sorts → Effect
  -- the last of the innermost ones stays, and has further parts
  Fills : List Bool → Effect

abbrev pub flow_act : Act → Shape → Option Shape
flow_act (Pass k) σ = Some σ
flow_act Open (stack us cs) = Some (stack (false ∷ us) cs)
flow_act Reopen (stack [] []) = None
flow_act Reopen (stack [] (c ∷ cs)) = Some (stack (true ∷ []) cs)
flow_act Reopen (stack (false ∷ us) cs) = None
flow_act Reopen (stack (true ∷ us) cs) = Some (stack (true ∷ false ∷ us) cs)
flow_act Adopt (stack [] cs) = None
flow_act Adopt (stack (u ∷ []) []) = None
flow_act Adopt (stack (u ∷ []) (c ∷ cs)) = Some (stack (true ∷ []) cs)
flow_act Adopt (stack (u ∷ (false ∷ us)) cs) = None
flow_act Adopt (stack (u ∷ (true ∷ us)) cs) = Some (stack (true ∷ false ∷ us) cs)
flow_act CheckType (stack [] []) = None
flow_act CheckType (stack [] (c ∷ cs)) = Some (stack [] (c ∷ cs))
flow_act CheckType (stack (u ∷ us) cs) = Some (stack (u ∷ us) cs)
flow_act (Close k) (stack [] cs) = None
flow_act (Close k) (stack (u ∷ []) cs) = Some (stack [] (only (sort_of k) ∷ cs))
flow_act (Close k) (stack (u ∷ (v ∷ us)) cs) = Some (stack (true ∷ us) cs)

abbrev pub added : Sorts → Shape → Option Shape
added c (stack [] cs) = Some (stack [] (c ∷ cs))
added c (stack (u ∷ us) cs) = Some (stack (true ∷ us) cs)

abbrev pub turned : Sorts → Shape → Option Shape
turned c (stack [] []) = None
turned c (stack [] (d ∷ cs)) = Some (stack [] (c ∷ cs))
turned c (stack (false ∷ us) cs) = None
turned c (stack (true ∷ us) cs) = Some (stack (true ∷ us) cs)

abbrev pub filled : Shape → Option Shape
filled (stack us cs) = Some (stack (true ∷ us) cs)

-- the first of these is that of a node that the others have ended in
abbrev pub behind_ended : (Shape → Option Shape) → List Sorts → Option (List Bool) → Option Shape
behind_ended f cs None = None
behind_ended f cs (Some []) = None
behind_ended f cs (Some (u ∷ us)) = f (stack us cs)

abbrev pub flow_call : Effect → Shape → Option Shape
flow_call (Adds ns c) (stack us cs) = behind_ended (added c) cs (take_needed ns us)
flow_call (Turns ns c) (stack us cs) = behind_ended (turned c) cs (take_needed ns us)
flow_call (Fills ns) (stack us cs) = behind_ended filled cs (take_needed ns us)

abbrev pub join_parts : List Sorts → List Sorts → Option (List Sorts)
join_parts [] [] = Some []
join_parts [] (d ∷ ds) = None
join_parts (c ∷ cs) [] = None
join_parts (c ∷ cs) (d ∷ ds) = elim (join_parts cs ds) [ None ↦ None | Some es ↦ Some (join_sorts c d ∷ es) ]

abbrev pub parts_within : List Sorts → List Sorts → Bool
parts_within [] [] = true
parts_within [] (d ∷ ds) = false
parts_within (c ∷ cs) [] = false
parts_within (c ∷ cs) (d ∷ ds) = within c d && parts_within cs ds

abbrev pub stacked : Option (List Bool) → Option (List Sorts) → Option Shape
stacked None y = None
stacked (Some us) None = None
stacked (Some us) (Some cs) = Some (stack us cs)

abbrev pub joined : Shape → Shape → Option Shape
joined (stack us cs) (stack vs ds) = stacked (meet us vs) (join_parts cs ds)

abbrev pub join_both : Option Shape → Option Shape → Option Shape
join_both None y = None
join_both (Some σ) None = None
join_both (Some σ) (Some τ) = joined σ τ

abbrev pub settles : Shape → Shape → Bool
settles (stack us cs) (stack vs ds) = covers us vs && parts_within ds cs

abbrev pub if_settled : Shape → Option Shape → Option Shape
if_settled σ None = None
if_settled σ (Some τ) = cond (settles σ τ) (Some σ) None

abbrev pub settled_by : (Shape → Option Shape) → Option Shape → Option Shape
settled_by f None = None
settled_by f (Some σ) = if_settled σ (f σ)

-- what repeating f makes of a shape, where it makes τ of it at first
abbrev pub repeated_flow : (Shape → Option Shape) → Shape → Option Shape → Option Shape
repeated_flow f σ None = None
repeated_flow f σ (Some τ) = elim (settles σ τ) [ true ↦ Some σ | false ↦ settled_by f (joined σ τ) ]

abbrev pub then_flow : (Shape → Option Shape) → Option Shape → Option Shape
then_flow f None = None
then_flow f (Some σ) = f σ

-- what a right side makes of a shape, where the table has the effect of each production
abbrev pub flow : {N : Type 0} → (N → Effect) → RightSide N → Shape → Option Shape
flow E (Do a) σ = flow_act a σ
flow E (Call n) σ = flow_call (E n) σ
flow E Nothing σ = Some σ
flow E (Seq g h) σ = then_flow (flow E h) (flow E g σ)
flow E (Or g h) σ = join_both (flow E g σ) (flow E h σ)
flow E (Many g) σ = repeated_flow (flow E g) σ (flow E g σ)
flow E (When a g h) σ = join_both (flow E g σ) (flow E h σ)

abbrev pub entry : Effect → Shape
entry (Adds ns c) = stack ns []
entry (Turns ns c) = stack ns (any_sort ∷ [])
entry (Fills ns) = stack ns []

-- one part is new, of these sorts
abbrev pub one_within : Sorts → Shape → Bool
one_within c (stack [] []) = false
one_within c (stack [] (d ∷ [])) = within d c
one_within c (stack [] (d ∷ (e ∷ ds))) = false
one_within c (stack (u ∷ us) cs) = false

abbrev pub one_filled : Shape → Bool
one_filled (stack [] cs) = false
one_filled (stack (u ∷ []) []) = u
one_filled (stack (u ∷ []) (c ∷ cs)) = false
one_filled (stack (u ∷ (v ∷ us)) cs) = false

abbrev pub ends_with : Effect → Shape → Bool
ends_with (Adds ns c) σ = one_within c σ
ends_with (Turns ns c) σ = one_within c σ
ends_with (Fills ns) σ = one_filled σ

-- the table is right for a production
abbrev pub has_effect : Effect → Option Shape → Bool
has_effect x None = false
has_effect x (Some σ) = ends_with x σ
