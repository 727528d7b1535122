-- Where objects are declared: file after file, package after package.
use Rattle.std.proofs.Common.{◌≡◌, ℕ, ◌+◌, Bor, List, [], ◌∷◌, ◌++◌, Option, Some, None, map, refl, sym, ap, ◌∙◌}
use Rattle.std.specs.Prelude.{slice_get, unwrap_or}
use Rattle.std.specs.List.{flat_map}
use Rattle.std.specs.Option.{option_map}
use Rattle.std.proofs.lemmas.List.{map-append}
use Rattle.std.proofs.lemmas.List.Sums.{fold-append}
use Rattle.std.proofs.lemmas.Option.{slice_get-map}
use Rattle.indexmap.specs.IndexMap.{insert_all, insert_entry}
use Rattle.go_base.specs.declared.ids.ObjId.{ObjId}
use Rattle.go_tree.specs.declared.node.Node.{Node}
use Rattle.go_tree.specs.Tree.{Tree}
use Rattle.go_module.specs.declared.module.Package.{Package}
use Rattle.go_module.specs.Modules.Module.{PackageData, file_view, package_view}
use Rattle.go_module.specs.Names.Declarations.{Declaration, declarations_in}
use Rattle.go_module.specs.NodeParts.{first_part}
use Rattle.go_module.specs.Scopes.{same_object}
use Rattle.go_report.specs.declared.declared_object.DeclaredObject.{DeclaredObject}
use Rattle.go_report.specs.Outline.{declared_by, declared_from, declared_in_packages, path_at}
use Rattle.go_names.specs.declared.declaration.Declaration.{Declaration as OwnDeclaration}
use Rattle.go_names.specs.declared.spec.Spec.{Spec as OwnSpec}
use Rattle.go_names.specs.Views.{declaration_view, declarations_view, specs_view, trees_at}
use Rattle.go_check.specs.declared.outline.Outline.{Outline as OwnOutline}
use Rattle.go_check.specs.declared.own_file.OwnFile.{OwnFile}
use Rattle.go_check.specs.Lines.Found.{OwnFileData, declared_in_file, own_file_view, own_files_in}
use Rattle.go_check.specs.View.{outline_view}
use Rattle.go_check.proofs.FoundLemmas.{declared_are}

-- the path of a package is that of the program's package

path_found : (packages : List Package) (place : ℕ) (found : Option Package) → slice_get packages place ≡ found → slice_get (map (λ (p : PackageData). p.path) (map package_view packages)) place ≡ option_map (λ (p : Package). (package_view p).path) found
path_found packages place None is =
    slice_get-map (λ (p : PackageData). p.path) (map package_view packages) place
    ∙ ap (option_map (λ (p : PackageData). p.path)) (slice_get-map package_view packages place ∙ ap (option_map package_view) is)
path_found packages place (Some own) is =
    slice_get-map (λ (p : PackageData). p.path) (map package_view packages) place
    ∙ ap (option_map (λ (p : PackageData). p.path)) (slice_get-map package_view packages place ∙ ap (option_map package_view) is)

pub path_there : (outline : OwnOutline) (place : ℕ) (own : Package) → slice_get outline.packages.now place ≡ Some own → path_at (outline_view outline) place ≡ (package_view own).path
path_there outline place own is = ap (λ o. unwrap_or o []) (path_found outline.packages.now place (Some own) is)

pub no_path : (outline : OwnOutline) (place : ℕ) → slice_get outline.packages.now place ≡ None → path_at (outline_view outline) place ≡ []
no_path outline place is = ap (λ o. unwrap_or o []) (path_found outline.packages.now place None is)

-- two groups of declarations are added one after the other
both_added : (old xs ys : List (ObjId × DeclaredObject)) → insert_all same_object (insert_all same_object old xs) ys ≡ insert_all same_object old (xs ++ ys)
both_added old xs ys = sym (fold-append (λ done p. insert_entry same_object done p.0 p.1) old xs ys)

names_of : (list : List OwnDeclaration) → map (λ d. (declaration_view d).name) list ≡ map (λ (d : Declaration). d.name) (declarations_view list)
names_of [] = refl
names_of (d ∷ list) = ap (λ l. (declaration_view d).name ∷ l) (names_of list)

pub file_added : (k : ℕ) (file : OwnFile) (old mid : List (ObjId × DeclaredObject)) (imports : List (Bor Node)) (specs : List OwnSpec) (list shown : List OwnDeclaration)
    → imports ≡ file.imports.items → specs ≡ file.specs.items → declarations_view list ≡ declarations_in (specs_view specs) → shown ≡ list
    → mid ≡ insert_all same_object old (map (declared_by k file.stub (file_view file.file.now)) (map first_part (trees_at imports)))
    → insert_all same_object mid (map (declared_by k file.stub (file_view file.file.now)) (map (λ d. (declaration_view d).name) shown)) ≡ insert_all same_object old (declared_in_file k (own_file_view file))
file_added k file old mid imports specs list shown is_imports is_specs is_list is_shown is_mid =
    let by : Tree → ObjId × DeclaredObject = declared_by k file.stub (file_view file.file.now) in
    let names : map (λ d. (declaration_view d).name) shown ≡ map (λ (d : Declaration). d.name) (declarations_in (specs_view file.specs.items)) =
    names_of shown
    ∙ ap (λ (l : List OwnDeclaration). map (λ (d : Declaration). d.name) (declarations_view l)) is_shown
    ∙ ap (map (λ (d : Declaration). d.name)) (is_list ∙ ap (λ (l : List OwnSpec). declarations_in (specs_view l)) is_specs) in
    let first : List Tree = map first_part (trees_at file.imports.items) in
    ap (λ es. insert_all same_object es (map by (map (λ d. (declaration_view d).name) shown))) (is_mid ∙ ap (λ (l : List (Bor Node)). insert_all same_object old (map by (map first_part (trees_at l)))) is_imports)
    ∙ ap (λ (l : List Tree). insert_all same_object (insert_all same_object old (map by first)) (map by l)) names
    ∙ both_added old (map by first) (map by (map (λ (d : Declaration). d.name) (declarations_in (specs_view file.specs.items))))
    ∙ ap (insert_all same_object old) (sym (map-append by first (map (λ (d : Declaration). d.name) (declarations_in (specs_view file.specs.items)))))

-- one more package
pub package_added : (k : ℕ) (p : PackageData) (left rest : List PackageData) (files : List OwnFileData) (old new whole : List (ObjId × DeclaredObject)) → left ≡ p ∷ rest → files ≡ own_files_in p
    → new ≡ insert_all same_object old (flat_map (declared_in_file k) files)
    → insert_all same_object old (declared_in_packages k left) ≡ whole
    → insert_all same_object new (declared_in_packages (k + 1) rest) ≡ whole
package_added k p left rest files old new whole at is now so_far =
    ap (λ es. insert_all same_object es (declared_in_packages (k + 1) rest))
    (now ∙ ap (λ (l : List OwnFileData). insert_all same_object old (flat_map (declared_in_file k) l)) is ∙ ap (insert_all same_object old) (declared_are k p.stub 0 p.files p.imports))
    ∙ both_added old (declared_from k p.stub 0 p.files) (declared_in_packages (k + 1) rest)
    ∙ ap (λ (l : List PackageData). insert_all same_object old (declared_in_packages k l)) (sym at)
    ∙ so_far
