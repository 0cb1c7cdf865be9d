-- Conditions that are tried after others: what the first list gives, or where it gives nothing the second.
use Rattle.std.proofs.Common.{◌≡◌, ℕ, Bool, true, false, cond, List, [], ◌∷◌, ◌++◌, Some, None, Option, sym, refl, ◌∙◌, arith}
use Rattle.std.specs.Option.{option_or}
use Rattle.refusals.specs.Conditions.{Condition, first_given}

pub joined : {X : Type 0} (first second : List (Condition X)) → first_given (first ++ second) ≡ option_or (first_given first) (first_given second)
joined [] second = refl
joined (c ∷ cs) second = next (joined cs second) c.holds
  where
    next : (rest : first_given (cs ++ second) ≡ option_or (first_given cs) (first_given second)) (b : Bool) → cond b (Some c.answer) (first_given (cs ++ second)) ≡ option_or (cond b (Some c.answer) (first_given cs)) (first_given second)
    next rest true = refl
    next rest false = rest

none_before : {X : Type 0} (first second : Option X) → option_or first second ≡ None → first ≡ None
none_before None second e = refl
none_before (Some x) second e = e

-- where nothing is given by both, nothing is given by the first
pub none_in_first : {X : Type 0} (first second : List (Condition X)) → first_given (first ++ second) ≡ None → first_given first ≡ None
none_in_first first second none = none_before (first_given first) (first_given second) (sym (joined first second) ∙ none)

-- where nothing is given, the first condition does not hold, and the others give nothing
pub none_of_first : {X : Type 0} (c : Condition X) (cs : List (Condition X)) → first_given (c ∷ cs) ≡ None → (c.holds ≡ false) × (first_given cs ≡ None)
none_of_first c cs none = by c.holds none
  where
    by : (b : Bool) → cond b (Some c.answer) (first_given cs) ≡ None → (b ≡ false) × (first_given cs ≡ None)
    by true e = absurd (let z : ◌≡◌ {A = ℕ} 0 1 = cc in omega arith)
    by false e = (refl, e)
