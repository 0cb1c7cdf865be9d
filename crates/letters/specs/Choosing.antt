-- Which letter is claimed on first.
use Rattle.std.specs.Prelude.{◌≡◌, ℕ, ◌<◌, Bool, true, not, ◌&&◌, ◌||◌, List, length, ◌==◌, ◌≢◌, nat_lt, slice_index_or}
use Rattle.std.specs.List.{list_all}
use Rattle.draw_order.specs.Orders.{Order}
use Rattle.draw_order.specs.declared.LetterFacts.{LetterFacts}
use Rattle.letters.specs.Letters.{includes, no_letter, original_in}
use Rattle.letters.specs.declared.letter.Letter.{Letter}

-- A letter is usable when its original is in, it holds something, and its days include today.
abbrev pub usable : ℕ → Letter → Bool
usable day row = original_in row && nat_lt 0 row.held && includes day row

-- What an order knows of the letter.
abbrev pub facts : Letter → LetterFacts
facts row = record { number = row.number; kind = row.kind; first_day = row.first_day; last_day = row.last_day; held = row.held }

-- The row's letter is usable, and the order puts it before every usable letter with another number.
abbrev pub goes_first : Order → ℕ → List Letter → Letter → Bool
goes_first before day rows row = usable day row && list_all (λ other. not (usable day other) || other.number == row.number || before (facts row) (facts other)) rows

-- In other words: at this place is a usable letter that the order puts before the usable letter at every other place.
pub record FirstUsable (before : Order) (day : ℕ) (rows : List Letter) (place : ℕ) : Type 0 where
  pub within : place < length rows
  pub is_usable : usable day (slice_index_or rows place no_letter) ≡ true
  pub before_others : (other : ℕ) → other < length rows → usable day (slice_index_or rows other no_letter) ≡ true → (other ≢ place) → before (facts (slice_index_or rows place no_letter)) (facts (slice_index_or rows other no_letter)) ≡ true

-- There is one such place, and it is this one.
abbrev pub OnlyFirstUsable : Order → ℕ → List Letter → ℕ → Type 0
OnlyFirstUsable before day rows place = FirstUsable before day rows place × ((other : ℕ) → FirstUsable before day rows other → other ≡ place)
