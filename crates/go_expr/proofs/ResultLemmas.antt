-- What follows of an answer that is Ok, and of one that is not.
use Rattle.std.specs.Prelude.{IfOk, OnErr, OnOk}
use Rattle.std.specs.declared.result.Result.{Result}
use Rattle.std.specs.declared.result.Result.TheVariants.{Ok, Err}

pub on_ok : {T E : Type 0} (r : Result T E) (P Q : T → Type 0) (R : Type 0) → ((x : T) → P x → Q x → R) → IfOk r P → IfOk r Q → OnOk r R
on_ok (Ok x) P Q R f p q = f x p q
on_ok (Err e) P Q R f p q = tt

pub on_err : {T E : Type 0} (r : Result T E) (P : Type 0) → P → OnErr r P
on_err (Ok x) P p = tt
on_err (Err e) P p = p
