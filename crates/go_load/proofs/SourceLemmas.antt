-- What a Go file breaks by itself, from what the calls say.
use Rattle.std.proofs.Common.{◌≡◌, ◌≢◌, ℕ, true, false, List, [], ◌∷◌, ◌++◌, Contains, sym, subst, ◌∙◌, ⊎_elim, Result, Ok, Err, IfOk}
use Rattle.std.proofs.lemmas.List.Elements.{Contains-append_left, Contains-append_right, Contains-append_cases}
use Rattle.go_base.specs.declared.rule.Broken.{Broken as BrokenRule}
use Rattle.go_tree.specs.Tree.{Tree}
use Rattle.go_module.specs.Broken.{broken_at}
use Rattle.go_module.specs.Order.{IsListOf}
use Rattle.go_form.specs.Whole.{AreBrokenForms, broken_forms}
use Rattle.go_module.specs.Modules.PathParts.{is_plain}
use Rattle.go_load.specs.Sources.{special_file_path, AreBrokenWith, SourceBreaks}
use Rattle.go_load.specs.declared.source.ReadSource.{ReadSource}
use Rattle.go_load.specs.declared.source.ReadSource.TheVariants.{Whole, Broken}
use Rattle.go_load.specs.Texts.ReadSources.{IsOneBroken, IsSource}

filled : (b : BrokenRule) (list : List BrokenRule) → list ≡ b ∷ [] → list ≢ []
filled b list q n = absurd (let z = sym q ∙ n in cc)

-- one rule alone
one_source : (path bytes : List ℕ) (number first : ℕ) (b : BrokenRule) (read : ReadSource) → SourceBreaks number first path bytes (b ∷ []) → IsOneBroken b read → IsSource path bytes number first read
one_source path bytes number first b (Whole file) breaks one = absurd one
one_source path bytes number first b (Broken list) breaks one = (filled b list.items one, subst (λ l. SourceBreaks number first path bytes l) (sym one) breaks)

pub one_told : {E : Type 0} (path bytes : List ℕ) (number first : ℕ) (b : BrokenRule) (r : Result ReadSource E) → SourceBreaks number first path bytes (b ∷ []) → IfOk r (λ read. IsOneBroken b read) → IfOk r (λ read. IsSource path bytes number first read)
one_told path bytes number first b (Ok read) breaks one = one_source path bytes number first b read breaks one
one_told path bytes number first b (Err e) breaks one = tt

-- a plain path breaks nothing more
pub plain_with : (file : ℕ) (path bytes : List ℕ) (tree : Tree) (list : List BrokenRule) → is_plain path ≡ true → AreBrokenForms file bytes tree list → AreBrokenWith file path bytes tree list
plain_with file path bytes tree list plain are = record { constraints = are.constraints; are_constraints = are.are_constraints; is_list = rw plain are.is_list }

among : (found list all : List BrokenRule) (b x : BrokenRule) → (Contains list x → Contains found x) → Contains (list ++ b ∷ []) x → Contains (b ∷ found) x
among found list all b x f h = ⊎_elim (λ l. Contains-append_right (b ∷ []) found x (f l)) (λ r. Contains-append_left (b ∷ []) found x r) (Contains-append_cases list (b ∷ []) x h)

among_back : (found list all : List BrokenRule) (b x : BrokenRule) → (Contains found x → Contains list x) → Contains (b ∷ found) x → Contains (list ++ b ∷ []) x
among_back found list all b x f h = ⊎_elim (λ l. Contains-append_right list (b ∷ []) x l) (λ r. Contains-append_left list (b ∷ []) x (f r)) (Contains-append_cases (b ∷ []) found x h)

-- one more is broken
one_more : (found list all : List BrokenRule) (b : BrokenRule) → IsListOf found list → IsListOf (list ++ b ∷ []) all → IsListOf (b ∷ found) all
one_more found list all b l a = record {
  ascending = a.ascending;
  same = λ x. (
    (λ h. among found list all b x (l.same x).0 ((a.same x).0 h)),
    (λ h. (a.same x).1 (among_back found list all b x (l.same x).1 h)),
  );
}

pub special_with : (file : ℕ) (path bytes : List ℕ) (tree : Tree) (list all : List BrokenRule) → is_plain path ≡ false → AreBrokenForms file bytes tree list → IsListOf (list ++ broken_at file 0 special_file_path ∷ []) all → AreBrokenWith file path bytes tree all
special_with file path bytes tree list all special are a =
    record { constraints = are.constraints; are_constraints = are.are_constraints; is_list = rw special (one_more (broken_forms file are.constraints tree) list all (broken_at file 0 special_file_path) are.is_list a) }
