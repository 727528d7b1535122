-- Lemmas on the text of types.
use Rattle.std.proofs.Common.{◌≡◌, ℕ, ◌==◌, ◌<◌, ◌≤◌, arith, Bool, true, false, List, [], ◌∷◌, ◌++◌, Option, Some, None, Vec, map, find, length, cond, ap, ◌∙◌, refl, append_assoc, sym}
use Rattle.std.proofs.lemmas.List.{append-nil}
use Rattle.std.proofs.lemmas.Bool.Decides.{nat_tests}
use Rattle.std.specs.Prelude.{◌&&◌, codes, if◌then◌else◌, slice_get, unwrap_or}
use Rattle.std.specs.Option.{option_map, option_map_or}
use Rattle.std.specs.Global.{Global}
use Rattle.go_base.specs.declared.ids.ObjId.{ObjId}
use Rattle.go_module.specs.Scopes.{same_object}
use Rattle.go_term.specs.declared.term.FuncTerm.{FuncTerm}
use Rattle.go_term.specs.declared.term.ElemTerm.TheViews.{out-FuncTerm}
use Rattle.go_term.specs.declared.term.ElemTerm.TheFolds.{fold_out-FuncTerm, fold-roll-Term}
use Rattle.go_term.specs.declared.term.Term.{Term}
use Rattle.go_term.specs.declared.term.Term.TheVariants.{Named, rolls-Named}
use Rattle.go_term.specs.Types.{TypeData, named, of_list, parts_of, signature_parts}
use Rattle.go_term.specs.View.{SignatureData, type_of, signature_of, elem_step, term_step, field_step, func_step, union_step}
use Rattle.go_report.specs.declared.lines.NamedObject.{NamedObject}
use Rattle.go_report.specs.Report.{NamedData, named_view}
use Rattle.go_report.specs.Text.Types.{arguments_text, behind_each, comma_list, joined, named_text, object_by, object_text, param_text, parameters_text, path_text, results_text, signature_text, texts_of, type_text, with_dots}

-- a path that is not empty, and a name
pub behind_path : (path name : List ℕ) → (length path == 0) ≡ false → path_text path ++ name ≡ path ++ (46 ∷ name)
behind_path [] name is = cc
behind_path (b ∷ bs) name is = append_assoc (b ∷ bs) (46 ∷ []) name

-- the first that passes, among those that elements stand for
found_by : {X Y : Type 0} (p : Y → Bool) (f : X → Y) (x : X) (xs : List X) (test : Bool)
    → find p (map f xs) ≡ option_map f (find (λ x. p (f x)) xs)
    → cond test (Some (f x)) (find p (map f xs)) ≡ option_map f (cond test (Some x) (find (λ x. p (f x)) xs))
found_by p f x xs true others = refl
found_by p f x xs false others = others

find-map : {X Y : Type 0} (p : Y → Bool) (f : X → Y) (xs : List X) → find p (map f xs) ≡ option_map f (find (λ x. p (f x)) xs)
find-map p f [] = refl
find-map p f (x ∷ xs) = found_by p f x xs (p (f x)) (find-map p f xs)

-- what stands for an object, where the object is found, and where it is not
named_by : (d : ObjId) (objects : List NamedObject) (found : Option NamedObject) → found ≡ find (λ n. same_object d n.object) objects
    → option_map named_view found ≡ object_by (map named_view objects) d
named_by d objects found is = ap (option_map named_view) is ∙ sym (find-map (λ (n : NamedData). same_object d n.object) named_view objects)

-- a text by what stands for an object
text_by : (text : NamedData → List ℕ) (d : ObjId) (objects : List NamedObject) (found : Option NamedObject) → found ≡ find (λ n. same_object d n.object) objects
    → option_map_or text (object_by (map named_view objects) d) [] ≡ option_map_or text (option_map named_view found) []
text_by text d objects found is = ap (λ (n : Option NamedData). option_map_or text n []) (sym (named_by d objects found is))

pub found_object : (d : ObjId) (objects : List NamedObject) (found : NamedObject) → Some found ≡ find (λ n. same_object d n.object) objects
    → object_text (map named_view objects) d ≡ named_text (named_view found)
found_object d objects found is = text_by named_text d objects (Some found) is

pub missing_object : (d : ObjId) (objects : List NamedObject) → None ≡ find (λ n. same_object d n.object) objects
    → object_text (map named_view objects) d ≡ []
missing_object d objects is = text_by named_text d objects None is

-- the text of an object
pub ruleset object_texts = (found_object, missing_object)

pub found_param : (d : ObjId) (i : ℕ) (objects : List NamedObject) (found : NamedObject) → Some found ≡ find (λ n. same_object d n.object) objects
    → param_text (map named_view objects) d i ≡ unwrap_or (slice_get (named_view found).params i) []
found_param d i objects found is = text_by (λ n. unwrap_or (slice_get n.params i) []) d objects (Some found) is

pub missing_param : (d : ObjId) (i : ℕ) (objects : List NamedObject) → None ≡ find (λ n. same_object d n.object) objects
    → param_text (map named_view objects) d i ≡ []
missing_param d i objects is = text_by (λ n. unwrap_or (slice_get n.params i) []) d objects None is

-- the name of a type parameter
pub ruleset param_texts = (found_param, missing_param)

-- type arguments, where there are any
pub some_arguments : (objects : List NamedData) (ts : List Term) → 1 ≤ length ts
    → arguments_text (texts_of objects (parts_of (map type_of ts))) ≡ codes "[" ++ (comma_list (texts_of objects (parts_of (map type_of ts))) ++ codes "]")
some_arguments objects [] some = absurd (omega arith)
some_arguments objects (t ∷ ts) some = refl

-- one result, and several
pub one_result : (objects : List NamedData) (ts : List Term) → 1 ≤ length ts → length ts < 2
    → results_text (texts_of objects (parts_of (map type_of ts))) ≡ codes " " ++ (comma_list (texts_of objects (parts_of (map type_of ts))) ++ [])
one_result objects [] some one = absurd (omega arith)
one_result objects (t ∷ []) some one = simp append-nil
one_result objects (t ∷ (u ∷ ts)) some one = absurd (omega arith)

pub some_results : (objects : List NamedData) (ts : List Term) → 2 ≤ length ts
    → results_text (texts_of objects (parts_of (map type_of ts))) ≡ codes " (" ++ (comma_list (texts_of objects (parts_of (map type_of ts))) ++ codes ")")
some_results objects [] some = absurd (omega arith)
some_results objects (t ∷ []) some = absurd (omega arith)
some_results objects (t ∷ (u ∷ ts)) some = refl

-- texts behind others, or the first of all
abbrev pub later : Bool → List ℕ → List (List ℕ) → List ℕ
later true between texts = behind_each between texts
later false between texts = joined between texts

-- one more text, in a loop that appends texts with another between them
pub one_later : (behind : Bool) (between text : List ℕ) (texts : List (List ℕ)) (out next last whole : List ℕ)
    → out ++ later behind between (text ∷ texts) ≡ whole
    → next ≡ out ++ (if behind then between else []) → last ≡ next ++ text
    → last ++ later true between texts ≡ whole
one_later true between text texts out next last whole before first second =
    rw second (rw first (simp append_assoc (simp append_assoc at before)))
one_later false between text texts out next last whole before first second =
    rw second (rw first (simp (append_assoc, append-nil) before))

-- parameters or other types, `...` before the last where they are those of a variadic function
abbrev pub listed : Bool → List (List ℕ) → List (List ℕ)
listed variadic texts = if variadic then with_dots texts else texts

listed_front : (variadic : Bool) (left : ℕ) (text : List ℕ) (texts : List (List ℕ)) → left ≡ length texts
    → listed variadic (text ∷ texts) ≡ ((if variadic && (left == 0) then codes "..." else []) ++ text) ∷ listed variadic texts
listed_front false left text texts is = refl
listed_front true left text [] is = rw is refl
listed_front true left text (next ∷ texts) is =
    let some : (left == 0) ≡ false = grind (arith, nat_tests) in
    rw some refl

-- one more of them
one_listed : (behind variadic : Bool) (left : ℕ) (text : List ℕ) (texts : List (List ℕ)) (out next dotted last whole : List ℕ)
    → left ≡ length texts → out ++ later behind (codes ", ") (listed variadic (text ∷ texts)) ≡ whole
    → next ≡ out ++ (if behind then codes ", " else []) → dotted ≡ next ++ (if variadic && (left == 0) then codes "..." else []) → last ≡ dotted ++ text
    → last ++ later true (codes ", ") (listed variadic texts) ≡ whole
one_listed behind variadic left text texts out next dotted last whole is before first second third =
    let dots = if variadic && (left == 0) then codes "..." else [] in
    one_later behind (codes ", ") (dots ++ text) (listed variadic texts) out next last whole (rw (listed_front variadic left text texts is) at before) first
    (third ∙ (ap (λ t. t ++ text) second ∙ append_assoc next dots text))

texts_at : (objects : List NamedData) (ts : List Term) → length (texts_of objects (parts_of (map type_of ts))) ≡ length ts
texts_at objects [] = refl
texts_at objects (t ∷ ts) = rw (texts_at objects ts) refl

-- one more of types
pub one_type : (objects : List NamedData) (behind variadic : Bool) (left : ℕ) (t : Term) (ts all : List Term) (out next dotted last whole : List ℕ)
    → all ≡ t ∷ ts → left ≡ length ts → out ++ later behind (codes ", ") (listed variadic (texts_of objects (parts_of (map type_of all)))) ≡ whole
    → next ≡ out ++ (if behind then codes ", " else []) → dotted ≡ next ++ (if variadic && (left == 0) then codes "..." else []) → last ≡ dotted ++ type_text objects (type_of t)
    → last ++ later true (codes ", ") (listed variadic (texts_of objects (parts_of (map type_of ts)))) ≡ whole
one_type objects behind variadic left t ts all out next dotted last whole is count before first second third =
    one_listed behind variadic left (type_text objects (type_of t)) (texts_of objects (parts_of (map type_of ts))) out next dotted last whole (count ∙ sym (texts_at objects ts))
    (ap (λ (us : List Term). out ++ later behind (codes ", ") (listed variadic (texts_of objects (parts_of (map type_of us))))) (sym is) ∙ before) first second third

-- a list of types between two texts, where these are what `form` puts around a list
within : (form : List (List ℕ) → List ℕ) (objects : List NamedData) (items seen told : List Term) (before after next out : List ℕ) → seen ≡ items → told ≡ items
    → form (texts_of objects (parts_of (map type_of seen))) ≡ before ++ (comma_list (texts_of objects (parts_of (map type_of seen))) ++ after)
    → out ≡ next ++ (before ++ (comma_list (texts_of objects (parts_of (map type_of told))) ++ after))
    → out ≡ next ++ form (texts_of objects (parts_of (map type_of items)))
within form objects items seen told before after next out is same around whole =
    whole ∙ (ap (λ (ts : List Term). next ++ (before ++ (comma_list (texts_of objects (parts_of (map type_of ts))) ++ after))) (same ∙ sym is)
    ∙ (ap (λ t. next ++ t) (sym around) ∙ ap (λ (ts : List Term). next ++ form (texts_of objects (parts_of (map type_of ts)))) is))

pub named_in_parts : (objects : List NamedData) (d : ObjId) (type : TypeData) (items seen told : List Term) (before after start next out : List ℕ)
    → type ≡ of_list (named d) (map type_of items) → seen ≡ items → told ≡ items
    → arguments_text (texts_of objects (parts_of (map type_of seen))) ≡ before ++ (comma_list (texts_of objects (parts_of (map type_of seen))) ++ after)
    → next ≡ start ++ object_text objects d
    → out ≡ next ++ (before ++ (comma_list (texts_of objects (parts_of (map type_of told))) ++ after))
    → out ≡ start ++ type_text objects type
named_in_parts objects d type items seen told before after start next out head is same around first second =
    let arguments : List ℕ = arguments_text (texts_of objects (parts_of (map type_of items))) in
    within arguments_text objects items seen told before after next out is same around second
    ∙ (ap (λ t. t ++ arguments) first ∙ (append_assoc start (object_text objects d) arguments ∙ ap (λ t. start ++ type_text objects t) (sym head)))

pub signature_in_parts : (objects : List NamedData) (signature : SignatureData) (variadic : Bool) (params results listed_params seen told : List Term) (before after start next out : List ℕ)
    → signature ≡ record { variadic = variadic; parts = signature_parts (map type_of params) (map type_of results) } → listed_params ≡ params → seen ≡ results → told ≡ results
    → results_text (texts_of objects (parts_of (map type_of seen))) ≡ before ++ (comma_list (texts_of objects (parts_of (map type_of seen))) ++ after)
    → next ≡ start ++ parameters_text variadic (texts_of objects (parts_of (map type_of listed_params)))
    → out ≡ next ++ (before ++ (comma_list (texts_of objects (parts_of (map type_of told))) ++ after))
    → out ≡ start ++ signature_text objects signature.variadic signature.parts
signature_in_parts objects signature variadic params results listed_params seen told before after start next out parts listing is same around first second =
    let all : List ℕ = parameters_text variadic (texts_of objects (parts_of (map type_of params))) in
    let answers : List ℕ = results_text (texts_of objects (parts_of (map type_of results))) in
    let here : next ≡ start ++ all = first ∙ ap (λ (ts : List Term). start ++ parameters_text variadic (texts_of objects (parts_of (map type_of ts)))) listing in
    within results_text objects results seen told before after next out is same around second
    ∙ (ap (λ t. t ++ answers) here ∙ (append_assoc start all answers ∙ ap (λ (d : SignatureData). start ++ signature_text objects d.variadic d.parts) (sym parts)))

-- what a signature and the term of a declared type stand for
pub signature_of-parts : (f : FuncTerm) → signature_of f ≡ record { variadic = (out-FuncTerm f).variadic; parts = signature_parts (map type_of (out-FuncTerm f).params.items) (map type_of (out-FuncTerm f).results.items) }
signature_of-parts f = fold_out-FuncTerm TypeData TypeData TypeData SignatureData TypeData elem_step term_step field_step func_step union_step f

pub named_of-parts : (term : Term) (d : ObjId) (ts : Vec Term Global) → term ≡ Named d ts → type_of term ≡ of_list (named d) (map type_of ts.items)
named_of-parts term d ts is = ap type_of (is ∙ sym (rolls-Named d ts)) ∙ fold-roll-Term TypeData TypeData TypeData SignatureData TypeData elem_step term_step field_step func_step union_step _
