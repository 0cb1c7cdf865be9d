-- What a rating policy may mean, and the policies.
use Rattle.std.specs.Prelude.{◌≡◌, Bool, cond, ◌&&◌, ◌⊎◌, ℤ, pos, negsuc, ◌≤ℤ◌, int_le}
use Rattle.std.specs.Int.{int_min}
use Rattle.rating.specs.declared.Grade.TheVariants.{Unrated}
use Rattle.rating.specs.declared.Grades.{Grades}

-- From the four latest grades and the arrears mark a coefficient in hundredths.
abbrev pub Coefficient : Type 0
Coefficient = Grades → Bool → ℤ

-- A coefficient lies between -100 and 100.
abbrev pub InRange : Coefficient → Type 0
InRange coefficient = (grades : Grades) (arrears : Bool) → (negsuc 99 ≤ℤ coefficient grades arrears) × (coefficient grades arrears ≤ℤ pos 100)

-- The flat policy gives 0 to everyone.
abbrev pub flat_zero : Coefficient
flat_zero grades arrears = pos 0

-- The grades of a retailer that was never rated.
abbrev pub no_grades : Grades
no_grades = record { newest = Unrated; second = Unrated; third = Unrated; fourth = Unrated }

-- The arrears layer gives 0 while the mark stands, and else the answer below.
abbrev pub arrears_layer : Coefficient → Coefficient
arrears_layer below grades arrears = cond arrears (pos 0) (below grades arrears)

-- The ceiling layer gives the smaller of the answer below and the ceiling, which is 0 to 100.
abbrev pub ceiling_layer : ℤ → Coefficient → Coefficient
ceiling_layer ceiling below grades arrears = int_min (below grades arrears) ceiling

-- The smaller of two answers is one of the two, and above neither.
pub record SmallerOf (one other answer : ℤ) : Type 0 where
  pub is_one : (answer ≡ one) ⊎ (answer ≡ other)
  pub not_above_one : answer ≤ℤ one
  pub not_above_other : answer ≤ℤ other

abbrev pub ceiling_fits : ℤ → Bool
ceiling_fits ceiling = int_le (pos 0) ceiling && int_le ceiling (pos 100)
