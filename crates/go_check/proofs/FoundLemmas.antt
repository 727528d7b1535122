-- The files of a package with what stands in them: what is found in them is what the definitions of a report have.
use Rattle.std.proofs.Common.{◌≡◌, ℕ, ◌+◌, ◌≤◌, min, Bool, Bor, List, [], ◌∷◌, ◌++◌, Option, length, map, take, drop, refl, sym, ap, ◌∙◌, subst, append_assoc, arith}
use Rattle.std.proofs.lemmas.List.{append-nil, map-id}
use Rattle.go_tree.specs.declared.node.Node.{Node}
use Rattle.go_names.specs.Views.{trees_at}
use Rattle.std.specs.List.{flat_map, zip}
use Rattle.go_base.specs.declared.ids.ObjId.{ObjId}
use Rattle.go_tree.specs.declared.node.NodeId.{NodeId}
use Rattle.go_tree.specs.Tree.{Tree, parts_of, tree_of}
use Rattle.go_module.specs.Modules.Heads.{import_specs}
use Rattle.go_module.specs.Modules.Module.{FileData, PackageData}
use Rattle.go_module.specs.Names.Declarations.{declarations_in, specs_in_file}
use Rattle.go_module.specs.Names.Imports.{imports_from}
use Rattle.go_judge.specs.Naming.{Naming}
use Rattle.go_report.specs.LineOrder.{AreInOrder, no_file, one_more}
use Rattle.go_report.specs.Outline.{Outline, declared_by, declared_from, declaring}
use Rattle.go_report.specs.PackageLines.{AreLines, declaration_defs, defs_from, exprs_from, exprs_in, import_defs, import_defs_in, member_defs, uses_from, uses_in, written_nodes}
use Rattle.go_report.specs.Report.{LineData}
use Rattle.go_judge.specs.Headers.{Headers}
use Rattle.go_model.specs.Outcomes.Walk.{outcome}
use Rattle.go_check.specs.Lines.Found.{OwnFileData, declared_in_file, def_lines, expr_lines, import_lines, own_file, own_files_from, own_files_in, use_lines}
use Rattle.go_check.specs.Lines.Ordered.{AddsInOrder}
use Rattle.go_expr.proofs.StructLemmas.{pairs_done}

-- the lines of imports read the spec and the package alone
pairs_are : (outline : Outline) (stub : Bool) (f : FileData) (k file : ℕ) (pairs : List (Tree × ℕ)) → flat_map (import_defs outline stub f) (map (λ pair. record { spec = pair.0; file = file; importer = k; imported = pair.1 }) pairs) ≡ flat_map (λ pair. import_defs_in outline stub f pair.1 (parts_of pair.0)) pairs
pairs_are outline stub f k file [] = refl
pairs_are outline stub f k file (pair ∷ pairs) = ap (λ l. import_defs_in outline stub f pair.1 (parts_of pair.0) ++ l) (pairs_are outline stub f k file pairs)

pub defs_are : (outline : Outline) (k : ℕ) (stub : Bool) (naming : Naming) (headers : Headers) (place : ℕ) (files : List FileData) (packages : List ℕ) → defs_from outline stub naming headers place files (imports_from k place files packages) ≡ map (def_lines outline (outcome naming headers)) (own_files_from stub place files packages)
defs_are outline k stub naming headers place [] packages = refl
defs_are outline k stub naming headers place (f ∷ files) packages =
    let n = length (import_specs f.tree) in
    ap (λ l. (l ++ (flat_map (declaration_defs stub f naming headers) (declarations_in (specs_in_file place f.tree)) ++ flat_map (member_defs stub f naming headers) (written_nodes place f))) ∷ defs_from outline stub naming headers (place + 1) files (imports_from k (place + 1) files (drop n packages)))
    (pairs_are outline stub f k place (zip (import_specs f.tree) (take n packages)))
    ∙ ap (λ l. def_lines outline (outcome naming headers) (own_file stub place f packages) ∷ l) (defs_are outline k stub naming headers (place + 1) files (drop n packages))

pub uses_are : (outline : Outline) (stub : Bool) (denotes : NodeId → Option ObjId) (place : ℕ) (files : List FileData) (packages : List ℕ) → uses_from outline stub denotes place files ≡ map (use_lines outline denotes) (own_files_from stub place files packages)
uses_are outline stub denotes place [] packages = refl
uses_are outline stub denotes place (f ∷ files) packages =
    ap (λ l. uses_in outline stub denotes place f ∷ l) (uses_are outline stub denotes (place + 1) files (drop (length (import_specs f.tree)) packages))

pub exprs_are : (stub : Bool) (naming : Naming) (headers : Headers) (place : ℕ) (files : List FileData) (packages : List ℕ) → exprs_from stub naming headers place files ≡ map (expr_lines headers (outcome naming headers)) (own_files_from stub place files packages)
exprs_are stub naming headers place [] packages = refl
exprs_are stub naming headers place (f ∷ files) packages =
    ap (λ l. exprs_in stub naming headers place f ∷ l) (exprs_are stub naming headers (place + 1) files (drop (length (import_specs f.tree)) packages))

-- what the files of a package declare
pub declared_are : (k : ℕ) (stub : Bool) (place : ℕ) (files : List FileData) (packages : List ℕ) → flat_map (declared_in_file k) (own_files_from stub place files packages) ≡ declared_from k stub place files
declared_are k stub place [] packages = refl
declared_are k stub place (f ∷ files) packages =
    ap (λ l. map (declared_by k stub f) (declaring place f.tree) ++ l) (declared_are k stub (place + 1) files (drop (length (import_specs f.tree)) packages))

-- one more file, whose lines are added in their order
pub one_added : (f : OwnFileData → List LineData) (all left rest : List OwnFileData) (x : OwnFileData) (found old new : List LineData) → left ≡ x ∷ rest → found ≡ f x → AddsInOrder found old new
    → ((more : List LineData) → AreInOrder (map f left) more → AreInOrder (map f all) (old ++ more))
    → (more : List LineData) → AreInOrder (map f rest) more → AreInOrder (map f all) (new ++ more)
one_added f all left rest x found old new at is adds so_far more in_order =
    let here : AreInOrder (found ∷ map f rest) (adds.here ++ more) = one_more found adds.here (map f rest) more (adds.here ++ more) adds.in_order in_order refl in
    let same : found ∷ map f rest ≡ map f left = ap (λ (l : List LineData). l ∷ map f rest) is ∙ ap (map f) (sym at) in
    subst (AreInOrder (map f all)) (sym (ap (λ (l : List LineData). l ++ more) adds.added ∙ append_assoc old adds.here more))
    (so_far (adds.here ++ more) (subst (λ (l : List (List LineData)). AreInOrder l (adds.here ++ more)) same here))

-- the lines of three kinds are those of a package
pub are_lines : (outline : Outline) (k : ℕ) (p : PackageData) (denotes : NodeId → Option ObjId) (naming : Naming) (headers : Headers) (files : List OwnFileData) (defs uses exprs lines : List LineData)
    → files ≡ own_files_in p
    → AreInOrder (map (def_lines outline (outcome naming headers)) files) defs
    → AreInOrder (map (use_lines outline denotes) files) uses
    → AreInOrder (map (expr_lines headers (outcome naming headers)) files) exprs
    → lines ≡ defs ++ (uses ++ exprs)
    → AreLines outline k p denotes naming headers lines
are_lines outline k p denotes naming headers files defs uses exprs lines is are_defs are_uses are_exprs all = record {
  defs = defs;
  uses = uses;
  exprs = exprs;
  are_defs = subst (λ (l : List (List LineData)). AreInOrder l defs) (ap (map (def_lines outline (outcome naming headers))) is ∙ sym (defs_are outline k p.stub naming headers 0 p.files p.imports)) are_defs;
  are_uses = subst (λ (l : List (List LineData)). AreInOrder l uses) (ap (map (use_lines outline denotes)) is ∙ sym (uses_are outline p.stub denotes 0 p.files p.imports)) are_uses;
  are_exprs = subst (λ (l : List (List LineData)). AreInOrder l exprs) (ap (map (expr_lines headers (outcome naming headers))) is ∙ sym (exprs_are p.stub naming headers 0 p.files p.imports)) are_exprs;
  all = all;
}

-- behind the last file
pub all_added : (f : OwnFileData → List LineData) (all left : List OwnFileData) (lines : List LineData) → left ≡ []
    → ((more : List LineData) → AreInOrder (map f left) more → AreInOrder (map f all) (lines ++ more))
    → AreInOrder (map f all) lines
all_added f all left lines none so_far =
    subst (AreInOrder (map f all)) (append-nil lines) (so_far [] (subst (λ (l : List OwnFileData). AreInOrder (map f l) []) (sym none) no_file))

-- behind the last import of a file
pub imports_done : (outline : Outline) (f : OwnFileData) (specs : List (Bor Node)) (packages : List ℕ) (i : ℕ) (list whole : List LineData) → min (length specs) (length packages) ≤ i → list ++ import_lines outline f (zip (trees_at (drop i specs)) (drop i packages)) ≡ whole → list ≡ whole
imports_done outline f specs packages i list whole behind so_far =
    let none : zip (trees_at (drop i specs)) (drop i packages) ≡ [] =
    ap (zip (trees_at (drop i specs))) (sym (map-id (drop i packages))) ∙ pairs_done (λ (node : Bor Node). tree_of node.now) (λ (x : ℕ). x) specs packages i behind in
    sym (append-nil list) ∙ ap (λ l. list ++ import_lines outline f l) (sym none) ∙ so_far
