-- What the limit is made of stays small.
use Rattle.std.proofs.Common.{ℕ, ◌≤◌, not, List, refl, arith}
use Rattle.std.proofs.lemmas.List.Filters.{sum_by-filter_both}
use Rattle.letters.specs.Letters.{held_on, held_total, includes}
use Rattle.letters.specs.declared.letter.Letter.{Letter}

-- the letters whose days include a day hold no more than all letters
pub held_on_small : (day : ℕ) (rows : List Letter) → held_on day rows ≤ held_total rows
held_on_small day rows = omega (arith, sum_by-filter_both (includes day) (λ row. not (includes day row)) (λ _. refl) (λ (row : Letter). row.held) rows)
