-- What is asked of the underlying type of a type, by what it comes to.
use Rattle.std.proofs.Common.{◌≡◌, ℕ, Option, Some, refl, sym, ap, ◌∙◌}
use Rattle.go_term.specs.Types.{TypeData}
use Rattle.go_judge.specs.Records.{HeaderData}
use Rattle.go_judge.specs.Headers.{Headers}
use Rattle.go_judge.specs.Types.Forms.{form_asked, found_in, underlying_over}
use Rattle.go_judge.specs.Types.TypeIdentity as identity
use Rattle.go_judge.specs.Types.TypeSets.{plain}
use Rattle.go_judge.specs.Types.UnderlyingType.{Reach, Reaches, Returns, Exceeds, under}
use Rattle.go_judge.specs.Quests.{Asked, Decided, Lacks, Quest, run, then_ask}
use Rattle.go_same.specs.Collect.{asked_then}
use Rattle.go_same.specs.declared.bounds.Bounds.{Bounds}
use Rattle.go_same.proofs.CollectLemmas.{run-then}
use Rattle.go_same.proofs.UnderLemmas.{plain_asked, plain_reach, plain-twice, under-plain}

-- that looks at no objects of fields and methods
pub found-over : {B : Type 0} (known : Headers) (t : TypeData) (next : Option TypeData → Quest HeaderData B) → ((u : TypeData) → next (Some (plain u)) ≡ next (Some u))
    → run known (then_ask (under (plain t)) (λ reach. next (found_in reach))) ≡ asked_then (underlying_over known t) (λ o. run known (next o))
found-over {B} known t next same =
    run-then known (under (plain t)) (λ reach. next (found_in reach))
    ∙ forgets (run known (under (plain t)))
    ∙ ap (λ x. asked_then x (λ reach. run known (next (found_in reach)))) (under-plain known t)
    ∙ sym (forgets (run known (under t)))
    ∙ asks (run known (under t))
  where
    reached : (reach : Reach) → run known (next (found_in reach)) ≡ run known (next (found_in (plain_reach reach)))
    reached (Reaches u) = ap (run known) (sym (same u))
    reached Returns = refl
    reached (Exceeds fault) = refl

    forgets : (x : Asked Reach) → asked_then x (λ reach. run known (next (found_in reach))) ≡ asked_then (plain_asked x) (λ reach. run known (next (found_in reach)))
    forgets (Decided reach) = reached reach
    forgets (Lacks d) = refl

    asks : (x : Asked Reach) → asked_then x (λ reach. run known (next (found_in reach))) ≡ asked_then (form_asked x) (λ o. run known (next o))
    asks (Decided reach) = refl
    asks (Lacks d) = refl

-- whether it is another type, behind so many names
pub lies-found : (known : Headers) (bounds : Bounds) (opened : ℕ) (t b : TypeData) (x : Asked (Option TypeData)) → x ≡ underlying_over known t
    → asked_then x (λ o. run known (identity.same_found (identity.same bounds.levels) bounds.left bounds.short opened b o))
    ≡ run known (then_ask (under (plain t)) (λ reach. identity.same_found (identity.same bounds.levels) bounds.left bounds.short opened b (found_in reach)))
lies-found known bounds opened t b x e =
    ap (λ x. asked_then x (λ o. run known (identity.same_found (identity.same bounds.levels) bounds.left bounds.short opened b o))) e
    ∙ sym (found-over known t (identity.same_found (identity.same bounds.levels) bounds.left bounds.short opened b)
    (λ u. ap (λ v. identity.behind (identity.same bounds.levels) bounds.left bounds.short opened v b) (plain-twice u)))

-- whether that of a second type is another's, behind so many names
pub both-found : (known : Headers) (bounds : Bounds) (opened : ℕ) (a t : TypeData) (x : Asked (Option TypeData)) → x ≡ underlying_over known t
    → asked_then x (λ o. run known (identity.both_found (identity.same bounds.levels) bounds.left bounds.short opened a o))
    ≡ run known (identity.same_underlying (identity.same bounds.levels) bounds.left bounds.short opened a (plain t))
both-found known bounds opened a t x e =
    ap (λ x. asked_then x (λ o. run known (identity.both_found (identity.same bounds.levels) bounds.left bounds.short opened a o))) e
    ∙ sym (found-over known t (identity.both_found (identity.same bounds.levels) bounds.left bounds.short opened a)
    (λ u. ap (λ v. identity.has_underlying (identity.same bounds.levels) bounds.left bounds.short opened a v) (plain-twice u)))
