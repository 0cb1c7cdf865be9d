-- The posting of a new letter.
use Rattle.std.specs.Prelude.{ℕ, ◌+◌, Bool, cond, not, ◌&&◌, List, [], ◌∷◌, ◌++◌, ◌==◌, nat_le, nat_lt, slice_set}
use Rattle.std.specs.List.{list_any, position_or_len}
use Rattle.calendar.specs.Calendar.{first_day_of, last_day_of}
use Rattle.draw_order.specs.declared.LetterKind.{LetterKind}
use Rattle.draw_order.specs.declared.LetterKind.TheVariants.{BankSingle, BankInParts, InsuranceInParts}
use Rattle.letters.specs.Letters.{free, has_letter, held_total, starts_in_time}
use Rattle.letters.specs.declared.letter.Letter.{Letter}
use Rattle.letters.specs.declared.letter.Standing.TheVariants.{In}
use Rattle.refusals.specs.Conditions.{Condition, ◌gives◌}
use Rattle.refusals.specs.Ranges.{is_day, is_number, is_sum, within}
use Rattle.refusals.specs.declared.Refusal.{Refusal}
use Rattle.refusals.specs.declared.Refusal.TheVariants.{OutOfRange, NoPlace, NumberTaken, DaysDoNotFit, TotalTooLarge}
use Rattle.ledger.specs.Parties.{party_conditions}
use Rattle.ledger.specs.declared.figures.Figures.{Figures}
use Rattle.ledger.specs.declared.party.Party.TheVariants.{Centre}
use Rattle.ledger.specs.declared.terms.LetterTerms.{LetterTerms}

-- The kind that a code stands for, where it stands for one.
abbrev pub kind_of : ℕ → LetterKind
kind_of code = cond (code == 1) BankSingle (cond (code == 2) BankInParts InsuranceInParts)

-- Number from 1 to 9,999, kind from 1 to 3, sum from 1 to 3,000,000,000 fen, both days up to 7,304, target month up to 233.
abbrev pub in_range : LetterTerms → Bool
in_range t =
    is_number t.number && within 1 3 t.kind && is_sum t.sum && is_day t.first_day && is_day t.last_day && nat_le t.target_month 233

-- The last day is neither before today, nor before the first day, nor before the end of the sixth month after the target
-- month, and the first day is early enough.
abbrev pub days_fit : Figures → LetterTerms → Bool
days_fit f t =
    nat_le f.today t.last_day && nat_le t.first_day t.last_day && nat_le (last_day_of (t.target_month + 6)) t.last_day
    && starts_in_time t.first_day (first_day_of t.target_month) f.letters.rows

-- When a letter is refused.
abbrev pub lodge_conditions : Figures → ℕ → LetterTerms → List (Condition Refusal)
lodge_conditions f party t =
    party_conditions Centre party
    ++ not (in_range t) gives OutOfRange
    ∷ has_letter t.number f.letters.rows gives NumberTaken
    ∷ not (list_any free f.letters.rows) gives NoPlace
    ∷ not (days_fit f t) gives DaysDoNotFit
    ∷ nat_lt 3_000_000_000 (held_total f.letters.rows + t.sum) gives TotalTooLarge
    ∷ []

-- The new letter: its original is in, and all of it is held.
abbrev pub new_letter : LetterTerms → Letter
new_letter t =
    record {
      number = t.number;
      kind = kind_of t.kind;
      first_day = t.first_day;
      last_day = t.last_day;
      lodged = t.sum;
      drawn = 0;
      returned = 0;
      lapsed = 0;
      held = t.sum;
      standing = In;
    }

abbrev pub with_letters : Figures → List Letter → Figures
with_letters f rows = record { today = f.today; usage = f.usage; grades = f.grades; letters = record { rows = rows } }

-- The book with the new letter at the first free place.
abbrev pub lodged : Figures → LetterTerms → Figures
lodged f t = with_letters f (slice_set f.letters.rows (position_or_len free f.letters.rows) (new_letter t))
