-- The lines that are read off the outcomes of nodes that were walked are those that their outcomes over the headers give.
use Rattle.std.proofs.Common.{◌≡◌, ℕ, Bool, Option, List, [], ◌∷◌, ◌++◌, Contains, map, ap, ◌∙◌}
use Rattle.std.specs.Prelude.{is_none, option_and_then}
use Rattle.std.specs.List.{flat_map, zip}
use Rattle.std.specs.Option.{option_map, option_map_or}
use Rattle.go_tree.specs.declared.node.NodeId.{NodeId}
use Rattle.go_tree.specs.Tree.{Tree, start_of}
use Rattle.go_term.specs.Types.{TypeData}
use Rattle.go_module.specs.Modules.Module.{FileData}
use Rattle.go_module.specs.Names.Declarations.{Declaration, Spec, declarations_in, declared_in, name_text, number_of}
use Rattle.go_operands.specs.Operands.{expressions_in_parts}
use Rattle.go_judge.specs.Naming.{Naming}
use Rattle.go_judge.specs.Judged.{OutcomeData}
use Rattle.go_model.specs.Outcomes.Readings.{record_in}
use Rattle.go_judge.specs.Records.{HeaderData, RecData}
use Rattle.go_judge.specs.Headers.{Headers, Outcomes}
use Rattle.go_model.specs.Outcomes.Walk.{outcome}
use Rattle.go_model.specs.Outcomes.Walked.{AreWalked}
use Rattle.go_report.specs.Finals.Nodes.{Finals, final_among, in_the_end}
use Rattle.go_report.specs.Outline.{Outline}
use Rattle.go_report.specs.Members.{members_of}
use Rattle.go_report.specs.PackageLines.{declaration_defs, def_by, expr_by, expr_end, finals_in, line_at, member_def, member_defs, member_defs_by, record_line, told_as, written}
use Rattle.go_report.specs.Report.{defined}
use Rattle.go_model.proofs.FlatLemmas.{filter_within, flat_cases, flat_contains, flat_map-same, map-same}
use Rattle.go_expr.specs.Read.{nodes_under, outcome_read}
use Rattle.go_expr.proofs.ReadLemmas.{read_is}
use Rattle.go_decl.proofs.ReadLemmas.{declared_within, header_same}
use Rattle.go_check.proofs.FinalLemmas.{finals_same}
use Rattle.go_check.specs.Lines.Found.{OwnFileData, all_specs_in, def_lines, expr_lines, import_lines, nodes_of_files}

module _ (naming : Naming) (headers : Headers) (outcomes : Outcomes) where
  abbrev read : Tree → OutcomeData RecData
  read = outcome_read outcomes

  module _ (nodes : List Tree) (walked : AreWalked naming headers nodes outcomes) where
    def_same : (stub : Bool) (f : FileData) (d : Declaration) → ((t : Tree) → Contains (nodes_under d) t → Contains nodes t) → def_by read stub f d ≡ declaration_defs stub f naming headers d
    def_same stub f d within =
        ap (λ (o : Option HeaderData). option_map_or (λ kind. line_at stub f (start_of d.name) (defined (name_text d.name) kind) ∷ []) (option_and_then (told_as (number_of d)) o) []) (header_same naming headers outcomes nodes walked d within)

    members_same : (stub : Bool) (f : FileData) (t : Tree) → Contains nodes t → member_defs_by read stub f t ≡ member_defs stub f naming headers t
    members_same stub f t h =
        ap (λ (o : OutcomeData RecData). map (member_def stub f) (option_map_or (members_of t) (option_and_then (λ r. r.type) (record_in o)) [])) (read_is naming headers nodes outcomes walked t h)

    expr_same : (final : NodeId → Option TypeData) (stub : Bool) (f : FileData) (t : Tree) → Contains nodes t → expr_by read final stub f t ≡ expr_by (outcome naming headers) final stub f t
    expr_same final stub f t h =
        ap (λ (o : OutcomeData RecData). record_line stub f (start_of t) (expr_end t) (option_map (in_the_end final t) (record_in o))) (read_is naming headers nodes outcomes walked t h)

  -- the lines of files
  module _ (files : List OwnFileData) (walked : AreWalked naming headers (nodes_of_files files) outcomes) where
    in_file : (f : OwnFileData) → Contains files f → (spec : Spec) → Contains f.specs spec → Contains (all_specs_in files) spec
    in_file f h spec i = flat_contains (λ (f : OwnFileData). f.specs) files f spec h i

    -- a node of a spec that is written
    node_within : (f : OwnFileData) → Contains files f → (t : Tree) → Contains (flat_map expressions_in_parts (written f.specs)) t → Contains (nodes_of_files files) t
    node_within f h t i =
        let spec = flat_cases expressions_in_parts (written f.specs) t i in
        flat_contains expressions_in_parts (all_specs_in files) spec.0 t (in_file f h spec.0 (filter_within (λ (spec : Spec). is_none spec.told_at) f.specs spec.0 spec.1)) spec.2

    pub defs_same : (outline : Outline) → map (def_lines outline read) files ≡ map (def_lines outline (outcome naming headers)) files
    defs_same outline = map-same (def_lines outline read) (def_lines outline (outcome naming headers)) files each
      where
        declared : (f : OwnFileData) → Contains files f → flat_map (def_by read f.stub f.file) (declarations_in f.specs) ≡ flat_map (declaration_defs f.stub f.file naming headers) (declarations_in f.specs)
        declared f h =
            flat_map-same (def_by read f.stub f.file) (declaration_defs f.stub f.file naming headers) (declarations_in f.specs)
            (λ d i. def_same (nodes_of_files files) walked f.stub f.file d
            (λ t j.
            let spec = flat_cases declared_in f.specs d i in
            flat_contains expressions_in_parts (all_specs_in files) spec.0 t (in_file f h spec.0 spec.1) (declared_within spec.0 d spec.2 t j)))

        members : (f : OwnFileData) → Contains files f → flat_map (member_defs_by read f.stub f.file) (flat_map expressions_in_parts (written f.specs)) ≡ flat_map (member_defs f.stub f.file naming headers) (flat_map expressions_in_parts (written f.specs))
        members f h =
            flat_map-same (member_defs_by read f.stub f.file) (member_defs f.stub f.file naming headers) (flat_map expressions_in_parts (written f.specs))
            (λ t i. members_same (nodes_of_files files) walked f.stub f.file t (node_within f h t i))

        each : (f : OwnFileData) → Contains files f → def_lines outline read f ≡ def_lines outline (outcome naming headers) f
        each f h = λ i. import_lines outline f (zip f.imports f.packages) ++ (declared f h i ++ members f h i)

    pub exprs_same : map (expr_lines headers read) files ≡ map (expr_lines headers (outcome naming headers)) files
    exprs_same = map-same (expr_lines headers read) (expr_lines headers (outcome naming headers)) files each
      where
        each : (f : OwnFileData) → Contains files f → expr_lines headers read f ≡ expr_lines headers (outcome naming headers) f
        each f h =
            let nodes = flat_map expressions_in_parts (written f.specs) in
            let final = final_among (finals_in headers read f.specs) in
            flat_map-same (expr_by read final f.stub f.file) (expr_by (outcome naming headers) final f.stub f.file) nodes
            (λ t i. expr_same (nodes_of_files files) walked final f.stub f.file t (node_within f h t i))
            ∙ ap (λ (finals : Finals). flat_map (expr_by (outcome naming headers) (final_among finals) f.stub f.file) nodes)
            (finals_same headers read (outcome naming headers) f.specs (λ t i. read_is naming headers (nodes_of_files files) outcomes walked t (node_within f h t i)))
