-- Each constant that is known is represented by its type, as headers are told or stay.
use Rattle.std.proofs.Common.{◌≡◌, ℕ, None, [], ◌∷◌, sym, subst}
use Rattle.go_judge.specs.Records.{HeaderData}
use Rattle.go_judge.specs.Headers.{Headers, headers_of}
use Rattle.go_constructs.specs.Operators.Honest.{AreHonest, IsHonestHeader}
use Rattle.go_decl.proofs.HonestHeaderLemmas.{added-honest, no-honest}
use Rattle.go_decl.proofs.RoundLemmas.{all_equal}

-- the same headers
pub honest_same : {headers after : Headers} → AreHonest headers → after ≡ headers → AreHonest after
honest_same honest same = subst AreHonest (sym same) honest

pub honest_each : (headers after : Headers) → AreHonest headers → ((e : ℕ) → after e ≡ headers e) → AreHonest after
honest_each headers after honest each = honest_same honest (all_equal after headers each)

-- no header
pub honest_none : (headers : Headers) → ((d : ℕ) → headers d ≡ None) → AreHonest headers
honest_none headers none = honest_same no-honest (all_equal headers (λ d. None) none)

-- one more header, of a declaration that had none
pub honest_told : (headers after : Headers) → AreHonest headers → (d : ℕ) (h : HeaderData) → headers d ≡ None → IsHonestHeader headers h → ((e : ℕ) → after e ≡ headers_of headers ((d, h) ∷ []) e) → AreHonest after
honest_told headers after honest d h vacant is learned = honest_same (added-honest headers honest d h vacant is) (all_equal after (headers_of headers ((d, h) ∷ [])) learned)
