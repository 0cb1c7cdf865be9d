-- What holds at each place of a table, and of the table.
use Rattle.std.proofs.Common.{◌≡◌, ℕ, ◌<◌, Bool, true, false, List, [], ◌∷◌, length, get_or, IfSome, Some, None, Option, sym, ap, ◌∙◌, ⊎_elim, arith, MatchOption}
use Rattle.std.proofs.lemmas.Bool.{cases_Bool, cases_lt}
use Rattle.std.proofs.lemmas.List.{get_or_past}
use Rattle.std.proofs.lemmas.List.Elements.{All-from_all_within, All-from_get_or}
use Rattle.std.proofs.lemmas.List.Folds.{list_any_at, list_any_none}
use Rattle.std.proofs.lemmas.List.Sums.{list_all-from_AllPass, passes_at_first, position_or_len_is}
use Rattle.std.specs.List.{AllWithin, HoldsAt, list_all, list_any, position_or_len}
use Rattle.tables.specs.Rows.{FindsFirst}

module _ {Row : Type 0} (passes : Row → Bool) (d : Row) where
  pub every_row_from : (rows : List Row) → ((i : ℕ) → i < length rows → passes (get_or rows i d) ≡ true) → list_all passes rows ≡ true
  every_row_from rows each = list_all-from_AllPass passes rows (All-from_get_or (λ row. passes row ≡ true) rows d each)

  pub no_row_from : (rows : List Row) → ((i : ℕ) → i < length rows → passes (get_or rows i d) ≡ false) → list_any passes rows ≡ false
  no_row_from rows each = list_any_none passes rows (All-from_get_or (λ row. passes row ≡ false) rows d each)

  -- a row that alone passes is the first that passes
  pub only_place : (rows : List Row) (i : ℕ) → i < length rows → passes (get_or rows i d) ≡ true → ((j : ℕ) → j < length rows → passes (get_or rows j d) ≡ true → j ≡ i) → i ≡ position_or_len passes rows
  only_place rows i h here only = sym (position_or_len_is passes rows i d (omega (arith, h)) (λ k before. ⊎_elim (λ does. let same = only k (omega (arith, h, before)) does in absurd (omega (arith, same, before))) (λ fails. fails) (cases_Bool (passes (get_or rows k d)))) (λ _. here))

  -- the first row that passes does pass, and so does what stands for a row past the end
  pub first_passes : (rows : List Row) → passes d ≡ true → passes (get_or rows (position_or_len passes rows) d) ≡ true
  first_passes rows default = ⊎_elim
      (λ within. passes_at_first passes rows d within)
      (λ past. ap passes (get_or_past rows (position_or_len passes rows) d past) ∙ default)
      (cases_lt (position_or_len passes rows) (length rows))

module _ {Row Place : Type 0} (passes : Row → Bool) (index : Place → ℕ) where
  -- what a search finds that looks at place after place
  pub finds_first : (rows : List Row) (found : Option Place) → IfSome found (λ place. index place < length rows) → MatchOption found (AllWithin (λ row. passes row ≡ false) rows 0 (length rows)) (λ place. HoldsAt (λ row. passes row ≡ true) rows (index place) × AllWithin (λ row. passes row ≡ false) rows 0 (index place)) → FindsFirst passes rows index found
  finds_first rows None within none = list_any_none passes rows (All-from_all_within (λ row. passes row ≡ false) rows none)
  finds_first [] (Some place) within at = absurd (omega (arith, within))
  finds_first (row ∷ rows) (Some place) within (here, before) =
      (list_any_at passes (row ∷ rows) (index place) row within (here row), sym (position_or_len_is passes (row ∷ rows) (index place) row (omega (arith, within)) (λ k h. before k row (omega arith) h) (λ _. here row)))
