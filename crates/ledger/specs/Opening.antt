-- The opening of a book.
use Rattle.std.specs.Prelude.{ℕ, List, [], ◌∷◌, ◌++◌, not, replicate}
use Rattle.letters.specs.Letters.{no_letter}
use Rattle.rating.specs.Policies.{no_grades}
use Rattle.refusals.specs.Conditions.{Condition, ◌gives◌, first_given}
use Rattle.refusals.specs.Ranges.{is_day}
use Rattle.refusals.specs.declared.Refusal.{Refusal}
use Rattle.refusals.specs.declared.Refusal.TheVariants.{OutOfRange}
use Rattle.ledger.specs.Outcomes.{Outcome, outcome_of}
use Rattle.ledger.specs.Parties.{party_conditions}
use Rattle.ledger.specs.declared.figures.Figures.{Figures}
use Rattle.ledger.specs.declared.party.Party.TheVariants.{Centre}

-- A new book on a day: no letter, no grade, no usage.
abbrev pub empty_on : ℕ → Figures
empty_on day = record { today = day; usage = 0; grades = no_grades; letters = record { rows = replicate 24 no_letter } }

-- When an opening is refused.
abbrev pub opening_conditions : ℕ → ℕ → List (Condition Refusal)
opening_conditions party day = party_conditions Centre party ++ not (is_day day) gives OutOfRange ∷ []

abbrev pub opening_outcome : ℕ → ℕ → Outcome
opening_outcome party day = outcome_of (first_given (opening_conditions party day))
