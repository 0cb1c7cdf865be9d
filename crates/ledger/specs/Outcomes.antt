-- What the opening and the postings answer.
use Rattle.std.specs.Prelude.{◌≡◌, ℕ, List, Some, None, Ok, Err, Option, Result}
use Rattle.std.specs.Result.{result_err}
use Rattle.refusals.specs.Conditions.{Condition, first_given, FirstDecides}
use Rattle.refusals.specs.declared.Refusal.{Refusal}
use Rattle.refusals.specs.Refusals.{refusal_number}
use Rattle.ledger.specs.declared.figures.Figures.{Figures}

-- Nothing more where it is accepted, and else the refusal.
abbrev pub Outcome : Type 0
Outcome = Result (Unit {0}) Refusal

-- The number of each outcome: 0 for what is accepted, the refusal's number for what is refused.
abbrev pub outcome_number : Outcome → ℕ
outcome_number (Ok accepted) = 0
outcome_number (Err refusal) = refusal_number refusal

-- What is answered where a condition gave a refusal, or none did.
abbrev pub outcome_of : Option Refusal → Outcome
outcome_of None = Ok tt
outcome_of (Some refusal) = Err refusal

-- The book after an outcome: a refusal leaves it as it was.
abbrev pub book_after : Outcome → Figures → Figures → Figures
book_after (Ok accepted) before changed = changed
book_after (Err refusal) before changed = before

-- What a posting with these conditions owes that would change the book before it so.
pub record Settled (conditions : List (Condition Refusal)) (before changed : Figures) (outcome : Outcome) (after : Figures) : Type 0 where
  pub answers : outcome ≡ outcome_of (first_given conditions)
  pub first : FirstDecides conditions (result_err outcome)
  pub leaves : after ≡ book_after outcome before changed
