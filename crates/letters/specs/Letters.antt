-- The rows of the table of letters, and what the rules read off them.
use Rattle.std.specs.Prelude.{ℕ, ◌+◌, Bool, true, false, not, ◌&&◌, ◌||◌, List, [], ◌∷◌, filter, sum_by, ◌==◌, nat_le, slice_index_or}
use Rattle.std.specs.List.{list_any, position_or_len}
use Rattle.draw_order.specs.declared.LetterKind.TheVariants.{BankSingle}
use Rattle.letters.specs.declared.letter.Letter.{Letter}
use Rattle.letters.specs.declared.letter.Standing.TheVariants.{Free, In, Out, Ended}

-- A row has a letter unless it is free.
abbrev pub booked : Letter → Bool
booked row = elim row.standing [ Free ↦ false | In ↦ true | Out demanded ↦ true | Ended ↦ true ]

abbrev pub free : Letter → Bool
free row = not (booked row)

-- The letter's original is in the strongroom.
abbrev pub original_in : Letter → Bool
original_in row = elim row.standing [ Free ↦ false | In ↦ true | Out demanded ↦ false | Ended ↦ false ]

-- It is with the issuer, who was asked for a sum.
abbrev pub original_out : Letter → Bool
original_out row = elim row.standing [ Free ↦ false | In ↦ false | Out demanded ↦ true | Ended ↦ false ]

-- What a free row holds: nothing.
abbrev pub no_letter : Letter
no_letter =
    record {
      number = 0;
      kind = BankSingle;
      first_day = 0;
      last_day = 0;
      lodged = 0;
      drawn = 0;
      returned = 0;
      lapsed = 0;
      held = 0;
      standing = Free;
    }

-- What was lodged was drawn, given back, has lapsed or is held.
abbrev pub balanced : Letter → Bool
balanced row = row.lodged == row.drawn + row.returned + row.lapsed + row.held

-- What holds of every row: it is in balance, and a free row holds nothing.
abbrev pub sound_row : Letter → Bool
sound_row row = balanced row && (booked row || row.held == 0)

-- The row has the letter with this number.
abbrev pub numbered : ℕ → Letter → Bool
numbered number row = booked row && row.number == number

-- Whether the table has the letter with this number, and its row.
abbrev pub has_letter : ℕ → List Letter → Bool
has_letter number rows = list_any (numbered number) rows

abbrev pub letter_row : ℕ → List Letter → Letter
letter_row number rows = slice_index_or rows (position_or_len (numbered number) rows) no_letter

-- No two letters of the table have one number.
abbrev pub distinct_numbers : List Letter → Bool
distinct_numbers [] = true
distinct_numbers (row ∷ rows) = (free row || not (has_letter row.number rows)) && distinct_numbers rows

-- The letter's days include this day.
abbrev pub includes : ℕ → Letter → Bool
includes day row = nat_le row.first_day day && nat_le day row.last_day

-- All held sums, of letters inside their days or not.
abbrev pub held_total : List Letter → ℕ
held_total rows = sum_by (λ row. row.held) rows

-- The held sums of the letters whose days include this day.
abbrev pub held_on : ℕ → List Letter → ℕ
held_on day rows = held_total (filter (includes day) rows)

-- A letter that starts on this day may follow the row's: it starts no later than the day after that one's last.
abbrev pub followed_by : ℕ → Letter → Bool
followed_by first_day row = booked row && nat_le first_day (row.last_day + 1)

-- A letter may start no later than its target month does, or than some booked letter allows that it follows.
abbrev pub starts_in_time : ℕ → ℕ → List Letter → Bool
starts_in_time first_day target_start rows = nat_le first_day target_start || list_any (followed_by first_day) rows
