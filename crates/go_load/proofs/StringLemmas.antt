-- Lemmas on the paths that string literals name.
use Rattle.std.proofs.Common.{◌≡◌, ℕ, ◌-◌, ◌<◌, ◌≤◌, List, [], length, None, sym, ap, subst, ◌∙◌, arith}
use Rattle.std.specs.List.{slice_range}
use Rattle.std.proofs.lemmas.List.{take_all}
use Rattle.go_num.specs.Text.{most_text}
use Rattle.go_tree.specs.declared.token.Token.{Token}
use Rattle.go_tree.specs.Lexical.LiteralValues.{string_lit_value}
use Rattle.go_tree.specs.Lexical.Scan.{IsNext}
use Rattle.go_scan.proofs.NextLemmas.{one_next}
use Rattle.go_module.specs.Modules.Heads.{IsImportPath, IsOneString, literal, long, other}
use Rattle.go_load.specs.Packages.Strings.{IsWholeText}

whole_range : (text : List ℕ) (a b : ℕ) → a ≡ 0 → b ≡ length text → slice_range text a b ≡ text
whole_range text a b start end =
    ap (λ n. slice_range text n b) start ∙ ap (λ n. slice_range text 0 n) end ∙ take_all (length text - 0) text (omega arith)

module _ (text path : List ℕ) (token : Token) (string : IsOneString text token) where
  here : slice_range text token.start token.end ≡ text
  here = whole_range text token.start token.end string.start string.end

  -- the path of a literal that is not too long
  pub literal_path : path ≡ string_lit_value (slice_range text token.start token.end) → ((most_text < length (string_lit_value (slice_range text token.start token.end))) → ⊥) → IsImportPath text path
  literal_path is short =
      let same : string_lit_value text ≡ path = sym (is ∙ ap string_lit_value here) in
      let fits : length (string_lit_value text) ≤ most_text = at_most (λ past. short (subst (λ t. most_text < length (string_lit_value t)) (sym here) past)) in
      subst (IsImportPath text) same (literal token string fits)
    where
      at_most : {n : ℕ} → ((most_text < n) → ⊥) → n ≤ most_text
      at_most {n = n} short = omega (arith, short)

  -- that of one that is too long
  pub long_path : most_text < length (string_lit_value (slice_range text token.start token.end)) → path ≡ [] → IsImportPath text path
  long_path past is = subst (IsImportPath text) (sym is) (long token string (subst (λ t. most_text < length (string_lit_value t)) here past))

-- the text begins with another token
pub other_path : (text path : List ℕ) (token : Token) → IsNext text 0 None token → (IsWholeText token (length text) → ⊥) → path ≡ [] → IsImportPath text path
other_path text path token next another is =
    subst (IsImportPath text) (sym is) (other (λ t string.
    let same : t ≡ token = one_next text 0 None t token string.next next in
    another (subst (λ u. IsWholeText u (length text)) same (record { kind = string.kind; start = string.start; end = string.end }))))

-- the text begins with no token
pub no_path : (text path : List ℕ) → ((t : Token) → IsNext text 0 None t → ⊥) → path ≡ [] → IsImportPath text path
no_path text path none is = subst (IsImportPath text) (sym is) (other (λ t string. none t string.next))
