-- The equations of the view of a term, one for each form that has a list of parts.
use Rattle.std.proofs.Common.{◌≡◌, ℕ, map, ap, sym, ◌∙◌, Vec, Global}
use Rattle.go_base.specs.declared.ids.ObjId.{ObjId}
use Rattle.go_term.specs.declared.term.Term.{Term}
use Rattle.go_term.specs.declared.term.Term.TheVariants as T
use Rattle.go_term.specs.declared.term.ElemTerm.{ElemTerm}
use Rattle.go_term.specs.declared.term.ElemTerm.TheVariants as E
use Rattle.go_term.specs.declared.term.ElemTerm.TheOpen as Open
use Rattle.go_term.specs.declared.term.ElemTerm.TheFolds.{fold-roll-Term, fold-roll-ElemTerm, fold-roll-FuncTerm, fold_out-FuncTerm}
use Rattle.go_term.specs.declared.term.FieldTerm.{FieldTerm}
use Rattle.go_term.specs.declared.term.FuncTerm.{FuncTerm, roll-FuncTerm}
use Rattle.go_term.specs.declared.term.UnionTerm.{UnionTerm}
use Rattle.go_term.specs.Sizes.{param_type}
use Rattle.go_term.specs.Types.{TypeData, struct_type, interface_type, tuple, named, union, of_list, signature_parts}
use Rattle.go_term.specs.View.{SignatureData, type_of, field_of, elem_of, union_term_of, signature_of, term_step, elem_step, field_step, func_step, union_step}

pub type_of-Struct : (fs : Vec FieldTerm Global) → type_of (T.Struct fs) ≡ of_list struct_type (map field_of fs.items)
type_of-Struct fs = ap type_of (sym (T.rolls-Struct fs)) ∙ fold-roll-Term TypeData TypeData TypeData SignatureData TypeData elem_step term_step field_step func_step union_step (Open.Struct fs)

pub type_of-Interface : (es : Vec ElemTerm Global) → type_of (T.Interface es) ≡ of_list interface_type (map elem_of es.items)
type_of-Interface es = ap type_of (sym (T.rolls-Interface es)) ∙ fold-roll-Term TypeData TypeData TypeData SignatureData TypeData elem_step term_step field_step func_step union_step (Open.Interface es)

pub type_of-Tuple : (ts : Vec Term Global) → type_of (T.Tuple ts) ≡ of_list tuple (map type_of ts.items)
type_of-Tuple ts = ap type_of (sym (T.rolls-Tuple ts)) ∙ fold-roll-Term TypeData TypeData TypeData SignatureData TypeData elem_step term_step field_step func_step union_step (Open.Tuple ts)

pub type_of-Named : (d : ObjId) (ts : Vec Term Global) → type_of (T.Named d ts) ≡ of_list (named d) (map type_of ts.items)
type_of-Named d ts = ap type_of (sym (T.rolls-Named d ts)) ∙ fold-roll-Term TypeData TypeData TypeData SignatureData TypeData elem_step term_step field_step func_step union_step (Open.Named d ts)

pub type_of-Param : (d : ObjId) (i : ℕ) → type_of (T.Param d i) ≡ param_type d i
type_of-Param d i = ap type_of (sym (T.rolls-Param d i)) ∙ fold-roll-Term TypeData TypeData TypeData SignatureData TypeData elem_step term_step field_step func_step union_step (Open.Param d i)

pub elem_of-Union : (us : Vec UnionTerm Global) → elem_of (E.Union us) ≡ of_list union (map union_term_of us.items)
elem_of-Union us = ap elem_of (sym (E.rolls-Union us)) ∙ fold-roll-ElemTerm TypeData TypeData TypeData SignatureData TypeData elem_step term_step field_step func_step union_step (Open.Union us)

pub parts-made : (f : Open.FuncTerm-F ElemTerm Term FieldTerm FuncTerm UnionTerm) → (signature_of (roll-FuncTerm f)).parts ≡ signature_parts (map type_of f.params.items) (map type_of f.results.items)
parts-made f = ap (λ (s : SignatureData). s.parts) (fold-roll-FuncTerm TypeData TypeData TypeData SignatureData TypeData elem_step term_step field_step func_step union_step f)

pub parts-out : (f : FuncTerm) → (signature_of f).parts ≡ signature_parts (map type_of f.params.items) (map type_of f.results.items)
parts-out f = ap (λ (s : SignatureData). s.parts) (fold_out-FuncTerm TypeData TypeData TypeData SignatureData TypeData elem_step term_step field_step func_step union_step f)
