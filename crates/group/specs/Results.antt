-- Steps that may refuse, one after another, and what a call does that follows a step.
use Rattle.std.specs.Prelude.{◌≡◌, Ok, Err, Result}

-- the second step on what the first one gives, or the refusal of the first
abbrev pub and_then : {A B E : Type 0} → Result A E → (A → Result B E) → Result B E
and_then (Ok x) step = step x
and_then (Err e) step = Err e

-- what is made of the value that a step gives
abbrev pub result_map : {A B E : Type 0} → (A → B) → Result A E → Result B E
result_map f (Ok x) = Ok (f x)
result_map f (Err e) = Err e

-- a call does what its step says: the value becomes what the step gives, or the call answers the refusal of the step and leaves the value as it was
abbrev pub Follows : {A E : Type 0} → Result A E → (old : A) → Result (Unit {0}) E → (new : A) → Type 0
Follows step old (Ok done) new = step ≡ Ok new
Follows step old (Err refusal) new = (step ≡ Err refusal) × (new ≡ old)

-- the same of a call that answers something besides
abbrev pub Answers : {A B E : Type 0} → Result (A × B) E → (old : B) → Result A E → (new : B) → Type 0
Answers step old (Ok answer) new = step ≡ Ok (answer, new)
Answers step old (Err refusal) new = (step ≡ Err refusal) × (new ≡ old)
