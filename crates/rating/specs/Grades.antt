-- The grades of a retailer.
use Rattle.std.specs.Prelude.{ℕ, List, [], ◌∷◌, Option, codes, nat_eq, nat_le}
use Rattle.refusals.specs.Conditions.{◌gives◌, first_given}
use Rattle.std.specs.List.{prefix_len}
use Rattle.rating.specs.declared.Grade.{Grade}
use Rattle.rating.specs.declared.Grade.TheVariants.{Unrated, C, B, A, AA, AAA}
use Rattle.rating.specs.declared.Grades.{Grades}

-- The place of each grade from the lowest to the highest.
abbrev pub rank : Grade → ℕ
rank Unrated = 0
rank C = 1
rank B = 2
rank A = 3
rank AA = 4
rank AAA = 5

-- The four latest grades, newest first.
abbrev pub latest : Grades → List Grade
latest g = g.newest ∷ g.second ∷ g.third ∷ g.fourth ∷ []

-- A new grade becomes the newest, and the oldest of the four is dropped.
abbrev pub graded : Grade → Grades → Grades
graded grade g = record { newest = grade; second = g.newest; third = g.second; fourth = g.third }

-- The grade that a code stands for: 0 to 4 for C to AAA.
abbrev pub grade_of : ℕ → Option Grade
grade_of code = first_given (nat_eq code 0 gives C ∷ nat_eq code 1 gives B ∷ nat_eq code 2 gives A ∷ nat_eq code 3 gives AA ∷ nat_eq code 4 gives AAA ∷ [])

-- A grade as tables of grades write it.
abbrev pub grade_name : Grade → List ℕ
grade_name Unrated = codes "none"
grade_name C = codes "C"
grade_name B = codes "B"
grade_name A = codes "A"
grade_name AA = codes "AA"
grade_name AAA = codes "AAA"

-- How many of the latest grades, from the newest on, are at least this one.
abbrev pub streak : Grade → Grades → ℕ
streak least g = prefix_len (λ grade. nat_le (rank least) (rank grade)) (latest g)
