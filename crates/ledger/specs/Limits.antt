-- Limit, exposure and colour of a book, under the coefficient of a rating policy.
use Rattle.std.specs.Prelude.{ℕ, ◌*◌, false, ℤ, pos, ◌+ℤ◌, ◌*ℤ◌}
use Rattle.letters.specs.Letters.{held_on}
use Rattle.rating.specs.Policies.{Coefficient}
use Rattle.ledger.specs.Colours.{colour_of}
use Rattle.ledger.specs.declared.colour.Colour.{Colour}
use Rattle.ledger.specs.declared.figures.Figures.{Figures}

-- 8 fen for each MWh of usage and each hundredth of the coefficient. No claim can be filed yet, so the mark does not stand.
abbrev pub credit_part : Coefficient → Figures → ℤ
credit_part policy f = pos (8 * f.usage) *ℤ policy f.grades false

abbrev pub limit : Coefficient → Figures → ℤ
limit policy f = credit_part policy f +ℤ pos (held_on f.today f.letters.rows)

-- No bill can be posted yet, so no month has anything due.
abbrev pub exposure : Figures → ℕ
exposure f = 0

abbrev pub colour : Coefficient → Figures → Colour
colour policy f = colour_of (limit policy f) (exposure f)
