-- The type parameters of a declaration, and the parts of a type.
use Rattle.std.proofs.Common.{◌≡◌, ℕ, suc, zero, ◌+◌, ◌<◌, ◌≤◌, List, [], ◌∷◌, ◌++◌, length, map, drop, refl, ap, ◌∙◌, arith, append_assoc, add-one, sym, Vec, Global}
use Rattle.std.proofs.lemmas.List.{drop_all, append-nil}
use Rattle.go_base.specs.declared.ids.ObjId.{ObjId}
use Rattle.go_term.specs.declared.term.Term.{Term}
use Rattle.go_term.specs.declared.term.Term.TheVariants as T
use Rattle.go_term.specs.Types.{TypeData, list_of, parts_of}
use Rattle.go_term.specs.View.{type_of}
use Rattle.go_judge.specs.Records.{HeaderData, ParamData}
use Rattle.go_judge.specs.Types.UnderlyingType.{params_from, right_side}
use Rattle.go_subst.specs.Chains.{referred}
use Rattle.go_subst.proofs.ViewLemmas.{type_of-Named}

pub list_of-parts_of : (ts : List TypeData) → list_of (parts_of ts) ≡ ts
list_of-parts_of [] = refl
list_of-parts_of (t ∷ ts) = ap (λ us. t ∷ us) (list_of-parts_of ts)

pub params_at : (d : ObjId) (k i : ℕ) (ps : List ParamData) → i < length ps → params_from d k (drop i ps) ≡ (d, k) ∷ params_from d (k + 1) (drop (suc i) ps)
params_at d k i [] lt = absurd (omega arith)
params_at d k zero (p ∷ ps) lt = refl
params_at d k (suc i) (p ∷ ps) lt = params_at d k i ps (omega arith)

pub params_done : (d : ObjId) (i : ℕ) (ps : List ParamData) (all : List (ObjId × ℕ)) → length ps ≤ i → all ++ params_from d i (drop i ps) ≡ params_from d 0 ps → all ≡ params_from d 0 ps
params_done d i ps all le e = sym (append-nil all) ∙ ap (λ xs. all ++ params_from d i xs) (sym (drop_all i ps le)) ∙ e

pub params_more : (d : ObjId) (i : ℕ) (ps : List ParamData) (all more whole : List (ObjId × ℕ)) → i < length ps → more ≡ all ++ ((d, i) ∷ [])
    → all ++ params_from d i (drop i ps) ≡ whole → more ++ params_from d (i + 1) (drop (i + 1) ps) ≡ whole
params_more d i ps all more whole lt e h =
    ap (λ m. m ++ params_from d (i + 1) (drop (i + 1) ps)) e
    ∙ append_assoc all ((d, i) ∷ []) (params_from d (i + 1) (drop (i + 1) ps))
    ∙ ap (λ n. all ++ ((d, i) ∷ params_from d (i + 1) (drop n ps))) (add-one i)
    ∙ ap (λ xs. all ++ xs) (sym (params_at d i i ps lt))
    ∙ h

pub length-params_from : (d : ObjId) (k : ℕ) (ps : List ParamData) → length (params_from d k ps) ≡ length ps
length-params_from d k [] = refl
length-params_from d k (p ∷ ps) = ap suc (length-params_from d (k + 1) ps)

-- to what a type refers that a declaration defines
pub named_refers : (d : ObjId) (ts : Vec Term Global) (xs : List Term) (t : Term) (h : HeaderData) → t ≡ T.Named d ts → xs ≡ ts.items → referred (type_of t) h ≡ right_side d (map type_of xs) h
named_refers d ts xs t h is read =
    ap (λ u. referred (type_of u) h) is
    ∙ ap (λ u. referred u h) (type_of-Named d ts)
    ∙ ap (λ us. right_side d us h) (list_of-parts_of (map type_of ts.items) ∙ ap (map type_of) (sym read))
