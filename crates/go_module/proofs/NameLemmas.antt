-- Bytes that are UTF-8, and bytes that are not.
use Rattle.std.proofs.Common.{◌≡◌, ℕ, Bool, true, false, List, [], refl, ap}
use Rattle.std.specs.Prelude.{if◌then◌else◌}
use Rattle.std.specs.Str.{IsUtf8, is_utf8}
use Rattle.std.proofs.lemmas.Str.{IsUtf8-from_is_utf8, is_utf8-from_IsUtf8}
use Rattle.go_module.specs.Modules.Texts.{as_text}

pub text_stays : (bytes : List ℕ) → IsUtf8 bytes → as_text bytes ≡ bytes
text_stays bytes good = ap (λ b. if b then bytes else []) (is_utf8-from_IsUtf8 bytes good)

other_is_empty : (bytes : List ℕ) (b : Bool) → is_utf8 bytes ≡ b → (IsUtf8 bytes → ⊥) → (if b then bytes else []) ≡ []
other_is_empty bytes true e bad = absurd (bad (IsUtf8-from_is_utf8 bytes e))
other_is_empty bytes false e bad = refl

pub no_text : (bytes : List ℕ) → (IsUtf8 bytes → ⊥) → as_text bytes ≡ []
no_text bytes bad = other_is_empty bytes (is_utf8 bytes) refl bad
