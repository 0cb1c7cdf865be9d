-- Which letter an order chooses.
use Rattle.std.specs.Prelude.{ℕ, cond, List, Some, None, Option, slice_index_or}
use Rattle.std.specs.List.{list_any, position_or_len}
use Rattle.std.specs.Option.{unwrap_or}
use Rattle.draw_order.specs.Orders.{Order}
use Rattle.draw_order.specs.declared.LetterKind.{LetterKind}
use Rattle.letters.specs.Choosing.{goes_first}
use Rattle.letters.specs.Letters.{no_letter}
use Rattle.letters.specs.declared.letter.Letter.{Letter}
use Rattle.letters.specs.declared.letter.Standing.TheVariants.{In}

-- The number of the letter that goes first, if one does.
abbrev pub chosen_number : Order → ℕ → List Letter → Option ℕ
chosen_number before day rows =
    let first = goes_first before day rows in
    cond (list_any first rows) (Some (slice_index_or rows (position_or_len first rows) no_letter).number) None

-- The number that is shown: that of the letter that goes first, 0 where none does.
abbrev pub shown_number : Order → ℕ → List Letter → ℕ
shown_number before day rows = unwrap_or (chosen_number before day rows) 0

-- The row of a letter as it was lodged.
abbrev pub row_in : ℕ → LetterKind → ℕ → ℕ → ℕ → Letter
row_in number kind first last held =
    record {
      number = number;
      kind = kind;
      first_day = first;
      last_day = last;
      lodged = held;
      drawn = 0;
      returned = 0;
      lapsed = 0;
      held = held;
      standing = In;
    }
