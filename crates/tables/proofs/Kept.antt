-- What holds of every row, at any place, and of a total whose rows are rewritten or left out.
use Rattle.std.proofs.Common.{◌≡◌, ℕ, zero, suc, ◌+◌, ◌≤◌, Bool, true, false, cond, List, [], ◌∷◌, filter, map, length, get_or, set, sum_by, refl, ap, ⊎_elim, arith}
use Rattle.std.proofs.lemmas.Bool.{and_parts, cases_Bool, cases_lt}
use Rattle.std.proofs.lemmas.List.{set_past}
use Rattle.std.proofs.lemmas.List.Sums.{sum_by-cons, sum_by-set}
use Rattle.std.specs.List.{list_all}

-- at any place, within the table or past it
pub every_row_at : {Row : Type 0} (passes : Row → Bool) (rows : List Row) (i : ℕ) (d : Row) → passes d ≡ true → list_all passes rows ≡ true → passes (get_or rows i d) ≡ true
every_row_at passes [] i d default all = default
every_row_at passes (row ∷ rows) zero d default all = (and_parts _ _ all).0
every_row_at passes (row ∷ rows) (suc i) d default all = every_row_at passes rows i d default (and_parts _ _ all).1

module _ {Row : Type 0} (adds : Row → ℕ) where
  -- a row that is rewritten adds at most what it now adds
  pub total_set_at_most : (rows : List Row) (i : ℕ) (row : Row) → sum_by adds (set rows i row) ≤ sum_by adds rows + adds row
  total_set_at_most rows i row = ⊎_elim
      (λ within. omega (arith, sum_by-set adds rows i row row within))
      (λ past. omega (arith, ap (sum_by adds) (set_past rows i row past)))
      (cases_lt i (length rows))

  -- a row that adds no more than the one before it does not raise a total
  pub total_set_no_more : (rows : List Row) (i : ℕ) (row d : Row) → adds row ≤ adds (get_or rows i d) → sum_by adds (set rows i row) ≤ sum_by adds rows
  total_set_no_more rows i row d no_more = ⊎_elim
      (λ within. omega (arith, sum_by-set adds rows i row d within, no_more))
      (λ past. omega (arith, ap (sum_by adds) (set_past rows i row past)))
      (cases_lt i (length rows))

  -- rows that each add no more than before do not raise a total
  pub total_map_no_more : (f : Row → Row) → ((row : Row) → adds (f row) ≤ adds row) → (rows : List Row) → sum_by adds (map f rows) ≤ sum_by adds rows
  total_map_no_more f no_more [] = omega arith
  total_map_no_more f no_more (row ∷ rows) = omega (arith, sum_by-cons adds row rows, sum_by-cons adds (f row) (map f rows), no_more row, total_map_no_more f no_more rows)

  -- a total over the rows that pass is one over all, where the others add nothing
  pub total_of_some : (passes : Row → Bool) (rows : List Row) → sum_by adds (filter passes rows) ≡ sum_by (λ row. cond (passes row) (adds row) 0) rows
  total_of_some passes [] = refl
  total_of_some passes (row ∷ rows) =
      let some = filter passes rows in
      let each : Row → ℕ = λ row. cond (passes row) (adds row) 0 in
      let rest : sum_by adds some ≡ sum_by each rows = total_of_some passes rows in
      let left : (b : Bool) → passes row ≡ b → sum_by adds (filter passes (row ∷ rows)) ≡ sum_by adds (cond b (row ∷ some) some) = λ b is. ap (λ b. sum_by adds (cond b (row ∷ some) some)) is in
      let here : (b : Bool) → passes row ≡ b → each row ≡ cond b (adds row) 0 = λ b is. ap (λ b. cond b (adds row) 0) is in
      ⊎_elim
      (λ yes. omega (arith, left true yes, here true yes, sum_by-cons adds row some, rest, sum_by-cons each row rows))
      (λ no. omega (arith, left false no, here false no, rest, sum_by-cons each row rows))
      (cases_Bool (passes row))
