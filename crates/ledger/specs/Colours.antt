-- The colour of a book.
use Rattle.std.specs.Prelude.{ℕ, ◌*◌, cond, ℤ, pos, ◌*ℤ◌, int_le}
use Rattle.ledger.specs.declared.colour.Colour.{Colour}
use Rattle.ledger.specs.declared.colour.Colour.TheVariants.{Red, Orange, Yellow, Green}

-- Red where the exposure reaches the limit, else orange where it reaches 80 hundredths of it, else yellow where it
-- reaches 60, else green.
abbrev pub colour_of : ℤ → ℕ → Colour
colour_of limit exposure =
    cond (int_le limit (pos exposure)) Red
    (cond (int_le (pos 80 *ℤ limit) (pos (100 * exposure))) Orange
    (cond (int_le (pos 60 *ℤ limit) (pos (100 * exposure))) Yellow
    Green))

-- The letter of each colour: R, O, Y, G.
abbrev pub colour_letter : Colour → ℕ
colour_letter Red = 82
colour_letter Orange = 79
colour_letter Yellow = 89
colour_letter Green = 71
