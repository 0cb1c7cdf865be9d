-- The first day of a month: the count by whole years agrees with the sum of the months before, and later months start later.
use Rattle.std.proofs.Common.{◌≡◌, ℕ, zero, suc, ◌+◌, ◌*◌, ◌/◌, ◌%◌, ◌<◌, ◌≤◌, Bool, true, false, cond, ◌&&◌, eqb, ltb, [], ◌∷◌, get_or, sym, refl, ap, ◌∙◌, ⊎_elim, add-one, arith}
use Rattle.std.specs.List.{AllByRecursion as All}
use Rattle.std.proofs.ByRecursion.{All-get_or}
use Rattle.std.proofs.lemmas.Bool.{cases_lt, cases_order, cond_both, eqb-false, eqb-true}
use Rattle.std.proofs.lemmas.Bool.Decides.{Decides-below_and, Decides-eqb}
use Rattle.calendar.specs.Calendar.{first_day_of, days_in, month_lengths, leap, InMonth, month_of}

-- the days of the years before a month, of the months of its year before it, and that year's leap day
abbrev pub counted : ℕ → ℕ
counted month =
    365 * (month / 12) + (month / 12 + 3) / 4 + cond (eqb (month / 12 % 4) 0 && ltb 1 (month % 12)) 1 0
    + get_or (0 ∷ 31 ∷ 59 ∷ 90 ∷ 120 ∷ 151 ∷ 181 ∷ 212 ∷ 243 ∷ 273 ∷ 304 ∷ 334 ∷ []) (month % 12) 0

-- the count goes up by a month's days from it to the next, at each of the first n months
abbrev steps : ℕ → Bool
steps zero = true
steps (suc n) = eqb (counted (suc n)) (counted n + days_in n) && steps n

step : (month : ℕ) → month < 240 → counted (suc month) ≡ counted month + days_in month
step = (Decides-below_and (λ m. eqb (counted (suc m)) (counted m + days_in m)) (λ m. counted (suc m) ≡ counted m + days_in m) steps (λ m. Decides-eqb (counted (suc m)) (counted m + days_in m)) refl (λ _. refl) 240).0 refl

pub counted_is : (month : ℕ) → month ≤ 240 → counted month ≡ first_day_of month
unfolding first_day_of
counted_is zero h = refl
counted_is (suc m) h = step m h ∙ ap (λ n. n + days_in m) (counted_is m (omega arith))

next : (month : ℕ) → first_day_of (suc month) ≡ first_day_of month + days_in month
unfolding first_day_of
next month = refl

-- the months that have a number end with day 7,304
pub after_last : first_day_of 240 ≡ 7305
after_last = sym (counted_is 240 (omega arith))

-- a month has 28 to 31 days
pub month_length : (month : ℕ) → (28 ≤ days_in month) × (days_in month ≤ 31)
month_length month = All-get_or (λ n. (28 ≤ n) × (n ≤ 31)) (month_lengths (leap (2024 + month / 12))) (month % 12) 0 (omega arith) (lengths (leap (2024 + month / 12)))
  where
    lengths : (b : Bool) → All (λ n. (28 ≤ n) × (n ≤ 31)) (month_lengths b)
    lengths true = omega arith
    lengths false = omega arith

pub at_most_31_each : (month : ℕ) → first_day_of month ≤ 31 * month
unfolding first_day_of
at_most_31_each zero = omega arith
at_most_31_each (suc m) = omega (arith, at_most_31_each m, month_length m)

-- a month starts after the one before it
pub later : (month : ℕ) → first_day_of month < first_day_of (month + 1)
later month = rw add-one (omega (arith, next month, month_length month))

-- of two months the later starts when the earlier has ended, or after
pub in_order : (m n : ℕ) → m < n → first_day_of (m + 1) ≤ first_day_of n
in_order m zero h = elim h [ ]
in_order m (suc n) h =
    ⊎_elim (λ l. omega (arith, in_order m n l, next n, month_length n)) (λ g. let e : m + 1 ≡ suc n = omega arith in omega (arith, ap first_day_of e)) (cases_lt m n)

pub no_later_than : (m n : ℕ) → m ≤ n → first_day_of m ≤ first_day_of n
no_later_than m n h = ⊎_elim (λ l. omega (arith, in_order m n l, later m)) (λ g. let e : m ≡ n = omega arith in omega (arith, ap first_day_of e)) (cases_lt m n)

-- a day that a numbered month starts on, or that lies before the end of the last, has a numbered month
pub numbered : (month day : ℕ) → first_day_of month ≤ day → day ≤ 7304 → month ≤ 239
numbered month day h l = ⊎_elim (λ g. absurd (omega (arith, no_later_than 240 month g, after_last))) (λ g. omega arith) (cases_lt 239 month)

pub alone : (day m n : ℕ) → InMonth day m → InMonth day n → m ≡ n
alone day m n a b = ⊎_elim (λ e. e) (λ o. absurd (⊎_elim (apart a b) (apart b a) o)) (cases_order m n)
  where
    apart : {k l : ℕ} → InMonth day k → InMonth day l → k < l → ⊥
    apart {k} {l} a b h = omega (arith, in_order k l h, later k)

-- a day after one in a month lies in that month, or in the next if that begins with it
next_day : (day m : ℕ) → InMonth day m → InMonth (suc day) (cond (eqb (first_day_of (m + 1)) (suc day)) (m + 1) m)
next_day day m here = cond_both (eqb (first_day_of (m + 1)) (suc day)) (m + 1) m (InMonth (suc day))
    (λ begins. let e = eqb-true _ _ begins in omega (arith, e, later (m + 1)))
    (λ goes_on. let ne = eqb-false _ _ goes_on in record { from = omega arith; to = omega (arith, ne, later m) })

-- the month of a day encloses it
pub month_encloses : (day : ℕ) → InMonth day (month_of day)
unfolding month_of first_day_of
month_encloses zero = omega (arith, later 0)
month_encloses (suc day) = next_day day (month_of day) (month_encloses day)

-- a month that encloses a day is the day's month
pub month_is : (day m : ℕ) → InMonth day m → m ≡ month_of day
month_is day m here = alone day m (month_of day) here (month_encloses day)
