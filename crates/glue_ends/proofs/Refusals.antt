-- What a refusal that is passed on says.
use Rattle.std.proofs.Common.{◌≡◌, ◌≢◌, ℕ, ◌≤◌, sym, ap, ◌∙◌, arith}
use Rattle.std.specs.declared.result.Result.{Result}
use Rattle.std.specs.declared.result.Result.TheVariants.{Ok, Err}
use Rattle.std.specs.Result.{IsErrAnd}
use Rattle.values.specs.Count.{Rose}

abbrev error_in : {T E : Type 0} → E → Result T E → E
error_in e (Ok x) = e
error_in e (Err y) = y

-- it is the error that it was made from
pub given_error : {T E : Type 0} {x e : E} (r : Result T E) → IsErrAnd r (λ y. y ≡ x) → r ≡ Err e → x ≡ e
given_error (Ok u) given is = absurd given
given_error {e = e} (Err y) given is = sym given ∙ ap (error_in e) is

-- and that of the call
pub same_error : {T U E : Type 0} {x e : E} (r : Result T E) (s : Result U E) → s ≡ Err x → IsErrAnd r (λ y. y ≡ x) → r ≡ Err e → s ≡ Err e
same_error r s was given is = was ∙ ap Err (given_error r given is)

-- and the error of the call is the one that is passed on
pub told_error : {T U E : Type 0} {x e : E} (r : Result T E) (s : Result U E) → s ≡ Err x → IsErrAnd r (λ y. y ≡ x) → s ≡ Err e → r ≡ Err e
told_error (Ok u) s was given is = absurd given
told_error {x = x} (Err y) s was given is = ap Err (given ∙ ap (error_in x) (sym was ∙ is))

-- no call both succeeds and fails
pub ok_no_error : {T E : Type 0} {v : T} {e : E} (r : Result T E) → r ≡ Ok v → r ≢ Err e
ok_no_error r ok err = cc

-- what rose later rose on the whole
pub rose_after : (a b c : ℕ) → a ≤ b → Rose b c → Rose a c
rose_after a b c before rose = omega (arith, before, rose)
