-- What holds of a state before a call, and of what the call makes of it, holds after the call.
use Rattle.std.proofs.Common.{◌≡◌, List, None, Ok, Err, Result, sym, subst}
use Rattle.refusals.specs.Conditions.{CarriedOut, Condition, first_given}

pub carried : {X State E : Type 0} (P : State → Type 0) (conditions : List (Condition E)) (before changed : State) (r : Result X E) (after : State) → CarriedOut conditions before changed r after → P before → (first_given conditions ≡ None → P changed) → P after
carried P conditions before changed (Ok x) after done here there = subst P (sym done.1) (there done.0)
carried P conditions before changed (Err e) after done here there = subst P (sym done.1) here
