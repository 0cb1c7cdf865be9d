-- The Guangxi table.
use Rattle.std.specs.Prelude.{◌≡◌, ℕ, ◌≤◌, max, Bool, true, false, ◌⊎◌, List, [], ◌∷◌, map, filter, ℤ, pos, negsuc, Some, None, Option, nat_le, All, Contains}
use Rattle.std.specs.List.{reduce}
use Rattle.rating.specs.Grades.{streak}
use Rattle.rating.specs.Policies.{Coefficient}
use Rattle.rating.specs.declared.Grade.{Grade}
use Rattle.rating.specs.declared.Grade.TheVariants.{Unrated, C, B, A, AA, AAA}
use Rattle.rating.specs.declared.Grades.{Grades}
use Rattle.rating.specs.declared.guangxi.TableRow.{TableRow}

-- The rows: so many of the latest grades all at least this one give this coefficient.
abbrev pub row : ℕ → Grade → ℕ → TableRow
row streak least coefficient = record { streak = streak; least = least; coefficient = coefficient }

unfoldable pub rows : List TableRow
rows = row 4 AAA 20 ∷ row 3 AAA 15 ∷ row 2 AAA 10 ∷ row 4 AA 10 ∷ row 3 AA 8 ∷ row 2 AA 5 ∷ []

abbrev pub fits : Grades → TableRow → Bool
fits g r = nat_le r.streak (streak r.least g)

-- The highest coefficient of the rows that fit, if one does.
abbrev pub highest : Grades → Option ℕ
highest g = reduce max (map (λ r. r.coefficient) (filter (fits g) rows))

-- What the newest grade alone gives.
abbrev pub by_newest : Grade → ℤ
by_newest Unrated = pos 0
by_newest C = negsuc 49
by_newest B = negsuc 29
by_newest A = pos 0
by_newest AA = pos 0
by_newest AAA = pos 0

-- The highest row that fits stands. If none fits, the newest grade decides. The mark is ignored.
abbrev pub guangxi : Coefficient
guangxi g arrears = elim (highest g) [ None ↦ by_newest g.newest | Some c ↦ pos c ]

-- In other words: a row of the table fits and gives the coefficient, and no row that fits is higher, that is, gives
-- more ..
pub record HighestRow (g : Grades) (table : List TableRow) (coefficient : ℤ) : Type 0 where
  pub row_taken : TableRow
  pub of_the_table : Contains table row_taken
  pub it_fits : fits g row_taken ≡ true
  pub it_gives : coefficient ≡ pos row_taken.coefficient
  pub none_higher : All (λ other. fits g other ≡ true → other.coefficient ≤ row_taken.coefficient) table

-- .. or no row fits, and the newest grade alone decides.
abbrev pub GuangxiRule : Grades → ℤ → Type 0
GuangxiRule g coefficient = HighestRow g rows coefficient ⊎ (All (λ r. fits g r ≡ false) rows × (coefficient ≡ by_newest g.newest))
