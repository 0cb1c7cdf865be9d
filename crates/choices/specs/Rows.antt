-- The rows of grades, counted like numbers of four digits.
use Rattle.std.specs.Prelude.{ℕ, ◌+◌, ◌*◌}
use Rattle.rating.specs.Grades.{rank}
use Rattle.rating.specs.declared.Grades.{Grades}

abbrev pub index_of : Grades → ℕ
index_of g = 216 * rank g.newest + 36 * rank g.second + 6 * rank g.third + rank g.fourth
