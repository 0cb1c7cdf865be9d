-- What a posting owes, once it is known whether a condition gave a refusal.
use Rattle.std.proofs.Common.{◌≡◌, List, Some, None, Ok, Err, sym, refl, ap, subst}
use Rattle.refusals.proofs.Deciding.{first_decides}
use Rattle.refusals.specs.Conditions.{Condition, first_given, FirstDecides}
use Rattle.refusals.specs.declared.Refusal.{Refusal}
use Rattle.ledger.specs.Outcomes.{outcome_of, Settled}
use Rattle.ledger.specs.declared.figures.Figures.{Figures}

module _ (conditions : List (Condition Refusal)) (before changed : Figures) where
  pub accepted : {after : Figures} → first_given conditions ≡ None → after ≡ changed → Settled conditions before changed (Ok tt) after
  accepted none is = record { answers = sym (ap outcome_of none); first = subst (FirstDecides conditions) none (first_decides conditions); leaves = is }

  pub refused : {reason : Refusal} → first_given conditions ≡ Some reason → Settled conditions before changed (Err reason) before
  refused some = record { answers = sym (ap outcome_of some); first = subst (FirstDecides conditions) some (first_decides conditions); leaves = refl }
