-- Clauses on one result.
use Rattle.std.proofs.Common.{Ok, Err}
use Rattle.std.specs.Prelude.{Result}
use Rattle.std.specs.Result.{OnOk, IfOk}

pub both_on_ok : {T E P Q R : Type 0} (r : Result T E) → (P → Q → R) → OnOk r P → OnOk r Q → OnOk r R
both_on_ok (Ok x) f p q = f p q
both_on_ok (Err e) f p q = tt

pub both_if_ok : {T E : Type 0} (r : Result T E) (P Q R : T → Type 0) → ((x : T) → P x → Q x → R x) → IfOk r P → IfOk r Q → IfOk r R
both_if_ok (Ok x) P Q R f p q = f x p q
both_if_ok (Err e) P Q R f p q = tt

pub four_on_ok : {T E A B C D R : Type 0} (r : Result T E) → (A → B → C → D → R) → OnOk r A → OnOk r B → OnOk r C → OnOk r D → OnOk r R
four_on_ok (Ok x) f a b c d = f a b c d
four_on_ok (Err e) f a b c d = tt

pub if_ok_any : {T E : Type 0} (r : Result T E) (P : T → Type 0) → ((x : T) → P x) → IfOk r P
if_ok_any (Ok x) P f = f x
if_ok_any (Err e) P f = tt
