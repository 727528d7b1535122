-- Of open nodes, which surely have a part: shapes, and what a right side makes of them.
use Rattle.std.proofs.Common.{◌≡◌, Bool, true, false, List, [], ◌∷◌, ◌++◌, refl, sym, ap, subst, cond, Option, None, Some, ◌&&◌}
use Rattle.go_tree.specs.Tree.{Tree}
use Rattle.go_tree.specs.Grammar.RightSide.{RightSide, Do, Call, Nothing, Seq, Or, Many, When, Act, Pass, Open, Reopen, Adopt, CheckType, Close}
use Rattle.go_tree.specs.Grammar.Trees.Reading.{OpenNode}

-- of the innermost open nodes, whether each surely has a part
abbrev pub Shape : Type 0
Shape = List Bool

abbrev pub flow_act : Act → Shape → Option Shape
flow_act (Pass k) σ = Some σ
flow_act Open σ = Some (false ∷ σ)
flow_act Reopen (true ∷ σ) = Some (true ∷ false ∷ σ)
flow_act Reopen _ = None
flow_act Adopt (p ∷ true ∷ σ) = Some (true ∷ false ∷ σ)
flow_act Adopt _ = None
flow_act CheckType σ = Some σ
flow_act (Close k) (p ∷ q ∷ σ) = Some (true ∷ σ)
flow_act (Close k) _ = None

-- the shape has at least what is needed, which is taken, and a node is left
abbrev pub take_needed : Shape → Shape → Option Shape
take_needed [] σ = Some (true ∷ σ)
take_needed (n ∷ ns) [] = None
take_needed (true ∷ ns) (false ∷ σ) = None
take_needed (true ∷ ns) (true ∷ σ) = take_needed ns σ
take_needed (false ∷ ns) (b ∷ σ) = take_needed ns σ

abbrev onto : Bool → Option Shape → Option Shape
onto b None = None
onto b (Some σ) = Some (b ∷ σ)

abbrev pub meet : Shape → Shape → Option Shape
meet [] [] = Some []
meet (a ∷ σ) (b ∷ τ) = onto (a && b) (meet σ τ)
meet _ _ = None

abbrev pub meet_both : Option Shape → Option Shape → Option Shape
meet_both None y = None
meet_both (Some σ) None = None
meet_both (Some σ) (Some τ) = meet σ τ

-- what is wanted is there
abbrev pub covers : Shape → Shape → Bool
covers [] [] = true
covers (true ∷ σ) (false ∷ τ) = false
covers (true ∷ σ) (true ∷ τ) = covers σ τ
covers (false ∷ σ) (b ∷ τ) = covers σ τ
covers _ _ = false

abbrev pub if_covered : Shape → Option Shape → Option Shape
if_covered σ None = None
if_covered σ (Some τ) = cond (covers σ τ) (Some σ) None

abbrev pub then_flow : (Shape → Option Shape) → Option Shape → Option Shape
then_flow f None = None
then_flow f (Some σ) = f σ

-- what a right side makes of a shape, where the table has what each production needs
abbrev pub flow : {N : Type 0} → (N → Shape) → RightSide N → Shape → Option Shape
flow E (Do a) σ = flow_act a σ
flow E (Call n) σ = take_needed (E n) σ
flow E Nothing σ = Some σ
flow E (Seq g h) σ = then_flow (flow E h) (flow E g σ)
flow E (Or g h) σ = meet_both (flow E g σ) (flow E h σ)
flow E (Many g) σ = if_covered σ (flow E g σ)
flow E (When a g h) σ = meet_both (flow E g σ) (flow E h σ)

-- a node is left where the production has taken what it needs
abbrev pub leaves_node : Option Shape → Bool
leaves_node None = false
leaves_node (Some σ) = covers (true ∷ []) σ

abbrev pub HasPart : List Tree → Type 0
HasPart [] = ⊥
HasPart (x ∷ xs) = Unit {0}

abbrev pub Fits : Shape → List OpenNode → Type 0
Fits [] [] = Unit {0}
Fits (b ∷ σ) (f ∷ fs) = (b ≡ true → HasPart f.parts) × Fits σ fs
Fits [] (f ∷ fs) = ⊥
Fits (b ∷ σ) [] = ⊥

pub fits_covered : (σ τ : Shape) (fs : List OpenNode) → covers σ τ ≡ true → Fits τ fs → Fits σ fs
fits_covered [] [] fs h f = f
fits_covered [] (b ∷ τ) fs h f = cc
fits_covered (true ∷ σ) [] fs h f = cc
fits_covered (false ∷ σ) [] fs h f = cc
fits_covered (true ∷ σ) (false ∷ τ) fs h f = cc
fits_covered (true ∷ σ) (true ∷ τ) [] h f = f
fits_covered (true ∷ σ) (true ∷ τ) (g ∷ fs) h f = (f.0, fits_covered σ τ fs h f.1)
fits_covered (false ∷ σ) (b ∷ τ) [] h f = f
fits_covered (false ∷ σ) (b ∷ τ) (g ∷ fs) h f = (λ e. cc, fits_covered σ τ fs h f.1)

pub single : (b : Bool) (fs : List OpenNode) → Fits (b ∷ []) fs → (f : OpenNode) × (fs ≡ f ∷ [])
single b [] f = absurd f
single b (g ∷ []) f = (g, refl)
single b (g ∷ h ∷ fs) f = absurd f.1

pub some_part : (xs : List Tree) (x : Tree) → HasPart (xs ++ x ∷ [])
some_part [] x = tt
some_part (y ∷ ys) x = tt

on_top : (b : Bool) (o : Option Shape) (ρ : Shape) → onto b o ≡ Some ρ → (τ : Shape) × (o ≡ Some τ) × (ρ ≡ b ∷ τ)
on_top b None ρ h = cc
on_top b (Some σ) ρ h = (σ, refl, cc)

and_left : (a b : Bool) → (a && b) ≡ true → a ≡ true
and_left true b h = refl
and_left false b h = cc

and_right : (a b : Bool) → (a && b) ≡ true → b ≡ true
and_right true b h = h
and_right false b h = cc

pub fits_left : (σ τ ρ : Shape) (fs : List OpenNode) → meet σ τ ≡ Some ρ → Fits σ fs → Fits ρ fs
fits_left [] [] ρ fs h f = let q : [] ≡ ρ = cc in subst (λ x. Fits x fs) q f
fits_left [] (b ∷ τ) ρ fs h f = cc
fits_left (a ∷ σ) [] ρ fs h f = cc
fits_left (a ∷ σ) (b ∷ τ) ρ [] h f = absurd f
fits_left (a ∷ σ) (b ∷ τ) ρ (g ∷ fs) h f = let z = on_top (a && b) (meet σ τ) ρ h in subst (λ x. Fits x (g ∷ fs)) (sym z.2) (λ e. f.0 (and_left a b e), fits_left σ τ z.0 fs z.1 f.1)

pub fits_right : (σ τ ρ : Shape) (fs : List OpenNode) → meet σ τ ≡ Some ρ → Fits τ fs → Fits ρ fs
fits_right [] [] ρ fs h f = let q : [] ≡ ρ = cc in subst (λ x. Fits x fs) q f
fits_right [] (b ∷ τ) ρ fs h f = cc
fits_right (a ∷ σ) [] ρ fs h f = cc
fits_right (a ∷ σ) (b ∷ τ) ρ [] h f = absurd f
fits_right (a ∷ σ) (b ∷ τ) ρ (g ∷ fs) h f = let z = on_top (a && b) (meet σ τ) ρ h in subst (λ x. Fits x (g ∷ fs)) (sym z.2) (λ e. f.0 (and_right a b e), fits_right σ τ z.0 fs z.1 f.1)

-- what is needed stands on top, and the rest below it
pub parted : (ns σ ρ : Shape) (fs : List OpenNode) → take_needed ns σ ≡ Some ρ → Fits σ fs → (tops more : List OpenNode) × (τ : Shape) × (fs ≡ tops ++ more) × Fits ns tops × Fits τ more × (ρ ≡ true ∷ τ)
parted [] σ ρ fs h f = ([], fs, σ, refl, tt, f, cc)
parted (n ∷ ns) [] ρ fs h f = cc
parted (n ∷ ns) (b ∷ σ) ρ [] h f = absurd f
parted (true ∷ ns) (false ∷ σ) ρ (g ∷ fs) h f = cc
parted (true ∷ ns) (true ∷ σ) ρ (g ∷ fs) h f = let z = parted ns σ ρ fs h f.1 in (g ∷ z.0, z.1, z.2, ap (λ x. g ∷ x) z.3, (f.0, z.4), z.5, z.6)
parted (false ∷ ns) (b ∷ σ) ρ (g ∷ fs) h f = let z = parted ns σ ρ fs h f.1 in (g ∷ z.0, z.1, z.2, ap (λ x. g ∷ x) z.3, (λ e. cc, z.4), z.5, z.6)
