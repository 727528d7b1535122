-- Lemmas on the text of a report: the lines one after another.
use Rattle.std.proofs.Common.{◌≡◌, ℕ, List, [], ◌∷◌, ◌++◌, map, refl, ap, sym, subst, ◌∙◌, append_assoc}
use Rattle.std.specs.List.{flat_map}
use Rattle.std.specs.Prelude.{codes}
use Rattle.std.proofs.lemmas.Grind.{flat_map-append}
use Rattle.std.proofs.lemmas.List.Folds.{flat_map-map}
use Rattle.std.proofs.lemmas.Simd.{map-map}
use Rattle.go_report.specs.declared.lines.Line.{Line}
use Rattle.go_report.specs.declared.lines.NamedObject.{NamedObject}
use Rattle.go_report.specs.declared.lines.Records.{Records}
use Rattle.go_module.specs.declared.places.Placed.{Placed}
use Rattle.go_report.specs.declared.report.Verdict.{Verdict}
use Rattle.go_report.specs.declared.report.Verdict.TheVariants.{Accepted}
use Rattle.go_report.specs.Report.{PackageReportData, VerdictData, refused, line_view, named_view, verdict_view}
use Rattle.go_report.specs.Text.Lines.{broken_fields, line_fields, line_text, package_fields, verdict_fields}

-- lines behind one other
pub behind_one : {X : Type 0} (f : List (List ℕ) → List ℕ) (fields : X → List (List ℕ)) (a : List (List ℕ)) (xs : List X) → f a ++ flat_map (λ x. f (fields x)) xs ≡ flat_map f (a ∷ map fields xs)
behind_one f fields a xs = ap (λ t. f a ++ t) (sym (flat_map-map f fields xs))

-- the same, behind a text
pub behind_text : {X : Type 0} (f : List (List ℕ) → List ℕ) (fields : X → List (List ℕ)) (a : List (List ℕ)) (xs : List X) (start next out : List ℕ) → next ≡ start ++ f a → out ≡ next ++ flat_map (λ x. f (fields x)) xs → out ≡ start ++ flat_map f (a ∷ map fields xs)
behind_text f fields a xs start next out first second =
    second ∙ (ap (λ t. t ++ flat_map (λ x. f (fields x)) xs) first ∙ (append_assoc start (f a) (flat_map (λ x. f (fields x)) xs) ∙ ap (λ t. start ++ t) (behind_one f fields a xs)))

-- the lines of each element, one list after another
pub all_lines : {X Y : Type 0} (f : List (List ℕ) → List ℕ) (lines : Y → List (List (List ℕ))) (view : X → Y) (xs : List X) → flat_map (λ x. flat_map f (lines (view x))) xs ≡ flat_map f (flat_map lines (map view xs))
all_lines f lines view [] = refl
all_lines f lines view (x ∷ xs) = ap (λ t. flat_map f (lines (view x)) ++ t) (all_lines f lines view xs) ∙ sym (flat_map-append f (lines (view x)) (flat_map lines (map view xs)))

-- the same, behind a line
pub behind_lines : {X Y : Type 0} (f : List (List ℕ) → List ℕ) (lines : Y → List (List (List ℕ))) (view : X → Y) (a : List (List ℕ)) (xs ys : List X) (start next out : List ℕ) → ys ≡ xs → start ≡ [] → next ≡ start ++ f a → out ≡ next ++ flat_map (λ x. flat_map f (lines (view x))) ys → out ≡ flat_map f (a ∷ flat_map lines (map view xs))
behind_lines f lines view a xs ys start next out same none first second =
    let line : next ≡ f a = first ∙ ap (λ t. t ++ f a) none in
    let here : out ≡ next ++ flat_map (λ x. flat_map f (lines (view x))) xs = second ∙ ap (λ zs. next ++ flat_map (λ x. flat_map f (lines (view x))) zs) same in
    here ∙ (ap (λ t. t ++ flat_map (λ x. flat_map f (lines (view x))) xs) line ∙ ap (λ t. f a ++ t) (all_lines f lines view xs))

-- the lines of a package that is accepted, and of one that is refused
pub accepted_lines : (p : PackageReportData) (v : Verdict) (records : Records) (lines : List Line) (objects : List NamedObject) (start next out : List ℕ)
    → v ≡ Accepted records → lines ≡ records.lines.items → objects ≡ records.named.items
    → next ≡ start ++ line_text (package_fields p (codes "accepted"))
    → out ≡ next ++ flat_map (λ line. line_text (line_fields (map named_view objects) (line_view line))) lines
    → out ≡ start ++ flat_map line_text (verdict_fields p (verdict_view v))
accepted_lines p v records lines objects start next out is same same_objects first second =
    let fields : List NamedObject → Line → List (List ℕ) = λ os line. line_fields (map named_view os) (line_view line) in
    let whole = behind_text line_text (fields objects) (package_fields p (codes "accepted")) lines start next out first second in
    let told = subst (λ (ls : List Line). out ≡ start ++ flat_map line_text (package_fields p (codes "accepted") ∷ map (fields objects) ls)) same whole in
    let by_objects = subst (λ (os : List NamedObject). out ≡ start ++ flat_map line_text (package_fields p (codes "accepted") ∷ map (fields os) records.lines.items)) same_objects told in
    let viewed = by_objects ∙ ap (λ t. start ++ flat_map line_text (package_fields p (codes "accepted") ∷ t)) (sym (map-map (line_fields (map named_view records.named.items)) line_view records.lines.items)) in
    subst (λ (w : Verdict). out ≡ start ++ flat_map line_text (verdict_fields p (verdict_view w))) (sym is) viewed

pub refused_lines : (p : PackageReportData) (v : Verdict) (list told : List Placed) (start next out : List ℕ)
    → verdict_view v ≡ refused list → told ≡ list
    → next ≡ start ++ line_text (package_fields p (codes "refused")) → out ≡ next ++ flat_map (λ broken. line_text (broken_fields broken)) told
    → out ≡ start ++ flat_map line_text (verdict_fields p (verdict_view v))
refused_lines p v list told start next out is same first second =
    let whole = behind_text line_text broken_fields (package_fields p (codes "refused")) told start next out first second in
    let all = subst (λ (bs : List Placed). out ≡ start ++ flat_map line_text (package_fields p (codes "refused") ∷ map broken_fields bs)) same whole in
    subst (λ (w : VerdictData). out ≡ start ++ flat_map line_text (verdict_fields p w)) (sym is) all
