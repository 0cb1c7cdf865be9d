use Rattle.std.proofs.lemmas.Grind.{common_steps}
use Rattle.std.proofs.Common.{◌≡◌, ℕ, zero, suc, ◌<◌, List, [], ◌∷◌, ◌++◌, map, length, get_or, take, drop, set, sym, refl, ap, ◌∙◌, le_of_suc-le-suc, arith, rules}
use Rattle.std.proofs.lemmas.List.Edits.{map_over_more}
use Rattle.std.proofs.lemmas.List.{get_or_default}
use Rattle.std.proofs.lemmas.List.Folds.{list_all_at}
use Rattle.letters.specs.Letters.{balanced, no_letter}
use Rattle.letters.specs.Sums.{after_day}
use Rattle.letters.proofs.table.LetterTable.end_past.Goals as goal

-- a row that the walk has come to is as it was
unchanged_at : {X : Type 0} (f : X → X) (xs : List X) (i : ℕ) (d : X) → i < length xs → get_or (map f (take i xs) ++ drop i xs) i d ≡ get_or xs i d
unchanged_at f [] i d h = absurd (omega arith)
unchanged_at f (x ∷ xs) zero d h = refl
unchanged_at f (x ∷ xs) (suc i) d h = unchanged_at f xs i d (le_of_suc-le-suc h)

pub returns-in_err-row : goal.returns-in_err-row
returns-in_err-row c =
    let rows = c.args.self.now.rows in
    let i = c.loop-row.row-index in
    let long : length rows ≡ 24 = search rules in
    let h : i < length rows = omega (arith, long, c.loop-row-test.true) in
    let same = ap (λ (rows : List _). get_or rows i no_letter) c.loop-row.invariant ∙ unchanged_at (after_day c.args.day) rows i no_letter h in
    let fails = list_all_at balanced rows i no_letter h (ap balanced (sym same) ∙ c.in_err-row.ensures) in
    search rules

pub loop-row-preserved : goal.loop-row-preserved
loop-row-preserved c =
    let rows = c.loop-row.row-items in
    let i = c.loop-row.row-index in
    let before : length c.args.self.now.rows ≡ 24 = search rules in
    let long : length rows ≡ 24 = ap length c.loop-row.invariant ∙ grind (arith, common_steps) in
    let within : i < length rows = omega (arith, long, c.loop-row-test.true) in
    let h : i < length c.args.self.now.rows = omega (arith, before, c.loop-row-test.true) in
    ap (set rows i) c.in_ok-row.ensures ∙ map_over_more (after_day c.args.day) c.args.self.now.rows rows i _ h c.loop-row.invariant (get_or_default rows i _ _ within)
