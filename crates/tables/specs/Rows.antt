-- What is read off the rows of a table.
use Rattle.std.specs.Prelude.{◌≡◌, ℕ, Bool, true, false, List, Option, MatchOption}
use Rattle.std.specs.List.{list_any, position_or_len}

-- What a search answers that gives a place with this index: the first row that passes a test, nothing where none does.
abbrev pub FindsFirst : {Row Place : Type 0} → (Row → Bool) → List Row → (Place → ℕ) → Option Place → Type 0
FindsFirst passes rows index found = MatchOption found (list_any passes rows ≡ false) (λ place. (list_any passes rows ≡ true) × (index place ≡ position_or_len passes rows))
