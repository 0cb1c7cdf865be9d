-- The Guangxi table gives what its highest fitting row gives, or what the newest grade gives.
use Rattle.std.specs.Prelude.{◌≡◌, ℕ, ◌<◌, ◌≤◌, max, Bool, true, false, cond, List, [], ◌∷◌, map, filter, pos, negsuc, ◌≤ℤ◌, Some, None, fold, Option, All, MatchOption, ℤ, refl}
use Rattle.std.proofs.Common.{inl, inr, ⊎_elim, sym, ap, ◌∙◌, subst, arith}
use Rattle.std.proofs.lemmas.Int.{ints}
use Rattle.std.proofs.lemmas.Bool.{both_ways, cases_lt}
use Rattle.std.proofs.lemmas.List.Elements.{All-nil, All-cons, All-contains, All-from_recursion, Contains-append_right}
use Rattle.std.specs.List.{reduce}
use Rattle.rating.specs.Guangxi.{GuangxiRule, HighestRow, by_newest, fits, guangxi, highest, rows}
use Rattle.rating.specs.declared.Grade.{Grade}
use Rattle.rating.specs.declared.Grades.{Grades}
use Rattle.rating.specs.declared.guangxi.TableRow.{TableRow}

-- the larger of a number and of another, if there is one
abbrev larger : ℕ → Option ℕ → ℕ
larger n None = n
larger n (Some m) = max n m

fold_larger : (m n : ℕ) (ns : List ℕ) → fold max (max m n) ns ≡ max m (fold max n ns)
fold_larger m n [] = refl
fold_larger m n (k ∷ ns) = ap (λ first. fold max first ns) (omega arith) ∙ fold_larger m (max n k) ns

reduce_larger : (n : ℕ) (ns : List ℕ) → fold max n ns ≡ larger n (reduce max ns)
reduce_larger n [] = refl
reduce_larger n (m ∷ ns) = fold_larger n m ns

module _ (g : Grades) where
  -- the highest coefficient of the rows of a table that fit
  abbrev most : List TableRow → Option ℕ
  most table = reduce max (map (λ (r : TableRow). r.coefficient) (filter (fits g) table))

  given_more : (r : TableRow) (table : List TableRow) → most (r ∷ table) ≡ cond (fits g r) (Some (larger r.coefficient (most table))) (most table)
  given_more r table = by (fits g r)
    where
      by : (b : Bool) → reduce max (map (λ (r : TableRow). r.coefficient) (cond b (r ∷ filter (fits g) table) (filter (fits g) table))) ≡ cond b (Some (larger r.coefficient (most table))) (most table)
      by true = ap Some (reduce_larger r.coefficient _)
      by false = refl

  abbrev Fails : TableRow → Type 0
  Fails row = fits g row ≡ false

  abbrev NotHigher : TableRow → TableRow → Type 0
  NotHigher row other = fits g other ≡ true → other.coefficient ≤ row.coefficient

  -- a row in front of a table becomes its highest, or does not
  taken : (r : TableRow) (table : List TableRow) → fits g r ≡ true → All (NotHigher r) table → HighestRow g (r ∷ table) (pos r.coefficient)
  taken r table does none_higher = record { row_taken = r; of_the_table = (0, omega arith, refl); it_fits = does; it_gives = refl; none_higher = All-cons (NotHigher r) r table (λ _. omega arith) none_higher }

  left : (r : TableRow) (table : List TableRow) {z : ℤ} → (row : HighestRow g table z) → NotHigher row.row_taken r → HighestRow g (r ∷ table) z
  left r table row not_higher =
      record {
        row_taken = row.row_taken;
        of_the_table = Contains-append_right (r ∷ []) table row.row_taken row.of_the_table;
        it_fits = row.it_fits;
        it_gives = row.it_gives;
        none_higher = All-cons (NotHigher row.row_taken) r table not_higher row.none_higher;
      }

  -- the most that rows give is what the highest row gives, and they give nothing only where none fits
  abbrev Known : List TableRow → Option ℕ → Type 0
  Known table o = MatchOption o (All Fails table) (λ c. HighestRow g table (pos c))

  known_more : (r : TableRow) (table : List TableRow) (b : Bool) → fits g r ≡ b → (o : Option ℕ) → Known table o → Known (r ∷ table) (cond b (Some (larger r.coefficient o)) o)
  known_more r table false fails None none = All-cons Fails r table fails none
  known_more r table false fails (Some c) row = left r table row (λ does. absurd (both_ways _ fails does))
  known_more r table true does None none = taken r table does (λ k d h yes. absurd (both_ways _ (none k d h) yes))
  known_more r table true does (Some c) row = ⊎_elim
      (λ (lower : r.coefficient < c).
      let same : max r.coefficient c ≡ c = omega arith in
      rw same (left r table row (λ _. omega (arith, ints, row.it_gives))))
      (λ (higher : c ≤ r.coefficient).
      let same : max r.coefficient c ≡ r.coefficient = omega arith in
      rw same (taken r table does (λ k d h yes. omega (arith, ints, row.none_higher k d h yes, row.it_gives))))
      (cases_lt r.coefficient c)

  known : (table : List TableRow) → Known table (most table)
  known [] = All-nil Fails
  known (r ∷ table) = subst (Known (r ∷ table)) (sym (given_more r table)) (known_more r table (fits g r) refl (most table) (known table))

  rule_by : (o : Option ℕ) → Known rows o → GuangxiRule g (elim o [ None ↦ by_newest g.newest | Some c ↦ pos c ])
  rule_by None none = inr (none, refl)
  rule_by (Some c) row = inl row

  pub rule : (arrears : Bool) → GuangxiRule g (guangxi g arrears)
  rule arrears = rule_by (highest g) (known rows)

  -- the same of a coefficient that equals the table's
  pub rule_of : (coefficient : ℤ) → coefficient ≡ guangxi g true → GuangxiRule g coefficient
  rule_of coefficient is = subst (GuangxiRule g) (sym is) (rule true)

newest_in_range : (grade : Grade) → (negsuc 99 ≤ℤ by_newest grade) × (by_newest grade ≤ℤ pos 100)
newest_in_range grade = grind (arith, ints)

small_rows : All (λ (r : TableRow). r.coefficient ≤ 100) rows
unfolding rows
small_rows = All-from_recursion (λ (r : TableRow). r.coefficient ≤ 100) rows (omega arith)

-- what a row gives is the answer and small, and where no row fits the newest grade decides
pub given : (g : Grades) (arrears : Bool) {c : ℕ} → highest g ≡ Some c → pos c ≡ guangxi g arrears
given g arrears is = sym (ap (λ o. elim o [ None ↦ by_newest g.newest | Some c ↦ pos c ]) is)

pub not_given : (g : Grades) (arrears : Bool) → highest g ≡ None → by_newest g.newest ≡ guangxi g arrears
not_given g arrears is = sym (ap (λ o. elim o [ None ↦ by_newest g.newest | Some c ↦ pos c ]) is)

pub given_small : (g : Grades) {c : ℕ} → highest g ≡ Some c → c ≤ 100
given_small g {c} is =
    let row : HighestRow g rows (pos c) = subst (Known g rows) is (known g rows) in
    omega (arith, ints, row.it_gives, All-contains (λ (r : TableRow). r.coefficient ≤ 100) rows row.row_taken small_rows row.of_the_table)

pub in_range : (g : Grades) (arrears : Bool) → (negsuc 99 ≤ℤ guangxi g arrears) × (guangxi g arrears ≤ℤ pos 100)
in_range g arrears = ⊎_elim
    (λ row. let small = All-contains (λ (r : TableRow). r.coefficient ≤ 100) rows row.row_taken small_rows row.of_the_table in omega (arith, ints, row.it_gives))
    (λ none. subst (λ z. (negsuc 99 ≤ℤ z) × (z ≤ℤ pos 100)) (sym none.1) (newest_in_range g.newest))
    (rule g arrears)
