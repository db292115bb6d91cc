-- What the result of a call says to the caller that passes it on.
use Rattle.std.proofs.Common.{◌≡◌, Result, Ok, Err, Option, None, IfSome, subst, sym}
use Rattle.std.proofs.lemmas.Bool.{false≢true}
use Rattle.std.specs.Result.{IfOk, OnOk, IfErr, IsErr, IsErrAnd}

-- an error has no value
pub no_result : {T E : Type 0} (r : Result T E) (P : T → Type 0) → IsErr r → IfOk r P
no_result (Ok x) P e = absurd (false≢true e)
no_result (Err x) P e = tt

-- what a value says, and what follows from it
pub with_value : {T E : Type 0} (r : Result T E) (P Q : Type 0) → (P → Q) → OnOk r P → OnOk r Q
with_value (Ok x) P Q f p = f p
with_value (Err x) P Q f p = tt

-- an error that is passed on
pub fault_is : {T E : Type 0} (P : E → Type 0) (r : Result T E) (fault : E) → IsErrAnd r (λ e. e ≡ fault) → P fault → IfErr r P
fault_is P (Ok x) fault h p = tt
fault_is P (Err e) fault h p = subst P (sym h) p

-- nothing is said of no value
pub no_value : {T : Type 0} (o : Option T) (P : T → Type 0) → o ≡ None → IfSome o P
no_value o P none = subst (λ o. IfSome o P) (sym none) tt
