-- Lemmas on characters: which are letters and digits among the first 128, and what decodes at an ASCII byte.
use Rattle.std.proofs.Common.{◌≡◌, ℕ, ◌<◌, Bool, refl, ◌||◌, ◌==◌}
use Rattle.std.specs.Bool.{beq}
use Rattle.ucd_table.proofs.Computing.{tables}
use Rattle.ucd_table.proofs.Facts.{Stepped-below, same_from_beq}
use Rattle.ucd_category.specs.GeneralCategory.{general_category}
use Rattle.ucd_category.specs.declared.GeneralCategory.{GeneralCategory}
use Rattle.ucd_category.proofs.GeneralCategoryLemmas.{general_category_stepped}
use Rattle.go_tree.specs.Lexical.Characters.{is_letter_category, is_digit_category, is_letter}
use Rattle.go_tree.specs.Lexical.Numbers.{is_decimal}
use Rattle.go_scan.specs.Ascii.{is_ascii_letter}

letter_agrees : ℕ → GeneralCategory → Bool
letter_agrees c g = beq ((c == 95) || is_letter_category g) (is_ascii_letter c)

digit_agrees : ℕ → GeneralCategory → Bool
digit_agrees c g = beq (is_digit_category g) (is_decimal c)

pub ascii_letters : (c : ℕ) → c < 128 → is_letter c ≡ is_ascii_letter c
unfolding tables general_category_stepped letter_agrees
ascii_letters c lt = same_from_beq _ _ (Stepped-below general_category general_category_stepped letter_agrees 128 refl c lt)

pub ascii_digits : (c : ℕ) → c < 128 → is_digit_category (general_category c) ≡ is_decimal c
unfolding tables general_category_stepped digit_agrees
ascii_digits c lt = same_from_beq _ _ (Stepped-below general_category general_category_stepped digit_agrees 128 refl c lt)
