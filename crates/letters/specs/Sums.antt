-- A row with other sums, and how a letter ends.
use Rattle.std.specs.Prelude.{◌≡◌, ℕ, ◌+◌, false, cond, ◌&&◌, Result, MatchResult, nat_lt}
use Rattle.letters.specs.Letters.{balanced, original_in}
use Rattle.letters.specs.declared.letter.Letter.{Letter}
use Rattle.letters.specs.declared.sums.LetterSums.{LetterSums}
use Rattle.letters.specs.declared.sums.rows.Unbalanced.{Unbalanced}
use Rattle.letters.specs.declared.letter.Standing.TheVariants.{Ended}

-- What makes something of a row answers: that of which a fact holds, and an error only where the row is not in balance.
abbrev pub IfBalanced : {X : Type 0} → Letter → Result X Unbalanced → (X → Type 0) → Type 0
IfBalanced row r P = MatchResult r P (λ _. balanced row ≡ false)

-- The row with these sums in the place of its own.
abbrev pub with_sums : Letter → LetterSums → Letter
with_sums row sums =
    record {
      number = row.number;
      kind = row.kind;
      first_day = row.first_day;
      last_day = row.last_day;
      lodged = sums.lodged;
      drawn = sums.drawn;
      returned = sums.returned;
      lapsed = sums.lapsed;
      held = sums.held;
      standing = row.standing;
    }

-- The row of a letter that has ended with these sums given back and lapsed. It holds nothing any more.
abbrev ended : Letter → ℕ → ℕ → Letter
ended row returned lapsed =
    record {
      number = row.number;
      kind = row.kind;
      first_day = row.first_day;
      last_day = row.last_day;
      lodged = row.lodged;
      drawn = row.drawn;
      returned = returned;
      lapsed = lapsed;
      held = 0;
      standing = Ended;
    }

-- A letter that ends by its return: what it held is given back.
abbrev pub given_back : Letter → Letter
given_back row = ended row (row.returned + row.held) row.lapsed

-- A letter that ends otherwise: what it held lapses.
abbrev pub lapsed_away : Letter → Letter
lapsed_away row = ended row row.returned (row.lapsed + row.held)

-- A day past a letter's last day ends it, if its original is in.
abbrev pub after_day : ℕ → Letter → Letter
after_day day row = cond (original_in row && nat_lt row.last_day day) (lapsed_away row) row
