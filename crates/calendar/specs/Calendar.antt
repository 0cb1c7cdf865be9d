-- The calendar: which days a month has.
use Rattle.std.specs.Prelude.{ℕ, zero, suc, ◌+◌, ◌-◌, ◌/◌, ◌%◌, ◌≤◌, Bool, cond, not, ◌&&◌, ◌||◌, List, [], ◌∷◌, ◌==◌, slice_index}

-- A year has a leap day if 4 divides it, but of the years that 100 divides only those that 400 divides.
abbrev pub leap : ℕ → Bool
leap year = year % 4 == 0 && (not (year % 100 == 0) || year % 400 == 0)

-- How many days each month of a year has, January first.
abbrev pub month_lengths : Bool → List ℕ
month_lengths leap_year = 31 ∷ cond leap_year 29 28 ∷ 31 ∷ 30 ∷ 31 ∷ 30 ∷ 31 ∷ 31 ∷ 30 ∷ 31 ∷ 30 ∷ 31 ∷ []

-- How many days a month has. Months are counted from January 2024, which is month 0.
abbrev pub days_in : ℕ → ℕ
days_in month = slice_index (month_lengths (leap (2024 + month / 12))) (month % 12)

-- The first day of a month. Days are counted from 1 January 2024, which is day 0.
unfoldable pub first_day_of : ℕ → ℕ
first_day_of zero = 0
first_day_of (suc month) = first_day_of month + days_in month

-- The last day of a month is the one before the next month begins.
abbrev pub last_day_of : ℕ → ℕ
last_day_of month = first_day_of (month + 1) - 1

-- A day lies in a month if the month's first and last day enclose it.
pub record InMonth (day month : ℕ) : Type 0 where
  pub from : first_day_of month ≤ day
  pub to : day ≤ last_day_of month

-- The month of a day: that of the day before, or the next one if this day is its first.
unfoldable pub month_of : ℕ → ℕ
month_of zero = 0
month_of (suc day) = cond (first_day_of (month_of day + 1) == suc day) (month_of day + 1) (month_of day)
