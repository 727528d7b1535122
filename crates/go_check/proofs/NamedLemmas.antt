-- The objects that the types of lines name.
use Rattle.std.proofs.Common.{◌≡◌, ℕ, ◌≤◌, List, [], ◌∷◌, ◌++◌, length, map, drop, refl, sym, ap, ◌∙◌}
use Rattle.std.specs.List.{flat_map}
use Rattle.std.proofs.lemmas.List.{append-nil, drop_all}
use Rattle.indexmap.specs.IndexMap.{insert_all}
use Rattle.go_base.specs.declared.ids.ObjId.{ObjId}
use Rattle.go_module.specs.Scopes.{same_object}
use Rattle.go_report.specs.declared.lines.Line.{Line}
use Rattle.go_report.specs.Outline.{Outline, named_by}
use Rattle.go_report.specs.PackageLines.{named_in, objects_in_what}
use Rattle.go_report.specs.Report.{LineData, NamedData, line_view}

first_parts : {A B C : Type 0} (f : A → C) (entries : List (A × B)) → map f (map (λ e. e.0) entries) ≡ map (λ e. f e.0) entries
first_parts f [] = refl
first_parts f (e ∷ entries) = ap (λ l. f e.0 ∷ l) (first_parts f entries)

-- the objects of these lines
abbrev pub objects_in : List Line → List (ObjId × ObjId)
objects_in lines = map (λ d. (d, d)) (flat_map (λ (line : LineData). objects_in_what line.what) (map line_view lines))

-- behind the last line and the last object
pub all_named : (outline : Outline) (lines : List Line) (i : ℕ) (named : List NamedData) (left keys : List ObjId) (entries : List (ObjId × ObjId)) → length lines ≤ i → left ≡ [] → keys ≡ map (λ e. e.0) entries
    → named ++ map (named_by outline) left ≡ map (named_by outline) keys
    → insert_all same_object entries (objects_in (drop i lines)) ≡ insert_all same_object [] (objects_in lines)
    → named ≡ named_in outline (map line_view lines)
all_named outline lines i named left keys entries past none is so_far whole =
    let entries_are : entries ≡ insert_all same_object [] (objects_in lines) =
    ap (λ (l : List Line). insert_all same_object entries (objects_in l)) (sym (drop_all i lines past)) ∙ whole in
    sym (append-nil named)
    ∙ ap (λ (l : List ObjId). named ++ map (named_by outline) l) (sym none)
    ∙ so_far
    ∙ ap (map (named_by outline)) is
    ∙ first_parts (named_by outline) entries
    ∙ ap (map (λ (e : ObjId × ObjId). named_by outline e.0)) entries_are
