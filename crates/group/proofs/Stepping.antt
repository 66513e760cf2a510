-- What is known where steps that may refuse have gone through.
use Rattle.std.proofs.Common.{◌≡◌, Ok, Err, Result, refl, Option, Some, None}
use Rattle.std.specs.Option.{ok_or}
use Rattle.group.specs.Results.{and_then, result_map}

-- both steps have
pub and_then_ok : {A B E : Type 0} (r : Result A E) (step : A → Result B E) (b : B) → and_then r step ≡ Ok b → (a : A) × (r ≡ Ok a) × (step a ≡ Ok b)
and_then_ok (Ok a) step b is = (a, refl, is)
and_then_ok (Err e) step b is = absurd cc

-- the step that something is made of has
pub made_ok : {A B E : Type 0} (f : A → B) (r : Result A E) (b : B) → result_map f r ≡ Ok b → (a : A) × (r ≡ Ok a) × (f a ≡ b)
made_ok f (Ok a) b is = (a, refl, cc)
made_ok f (Err e) b is = absurd cc

-- there is something
pub ok_or_ok : {A E : Type 0} (o : Option A) (e : E) (a : A) → ok_or o e ≡ Ok a → o ≡ Some a
ok_or_ok (Some x) e a is = cc
ok_or_ok None e a is = absurd cc
