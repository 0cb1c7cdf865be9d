-- The table keeps what the book's type carries when a new letter is put into it.
use Rattle.std.proofs.Common.{◌≡◌, ℕ, ◌+◌, ◌≤◌, true, List, set, refl, arith}
use Rattle.letters.specs.Letters.{held_total, sound_row}
use Rattle.letters.specs.declared.letter.Letter.{Letter}
use Rattle.std.proofs.lemmas.Bool.{and_from, eq-eqb}
use Rattle.std.proofs.lemmas.List.Elements.{All-set}
use Rattle.std.proofs.lemmas.List.Sums.{AllPass-from_list_all, list_all-from_AllPass}
use Rattle.std.specs.List.{list_all}
use Rattle.tables.proofs.Kept.{total_set_at_most}
use Rattle.ledger.specs.Lodge.{new_letter}
use Rattle.ledger.specs.declared.terms.LetterTerms.{LetterTerms}

module _ (rows : List Letter) (i : ℕ) (t : LetterTerms) where
  sound : sound_row (new_letter t) ≡ true
  sound = and_from _ _ (eq-eqb _ _ (omega arith)) refl

  pub rows_kept : list_all sound_row rows ≡ true → list_all sound_row (set rows i (new_letter t)) ≡ true
  rows_kept all = list_all-from_AllPass sound_row _ (All-set (λ row. sound_row row ≡ true) rows i (new_letter t) sound (AllPass-from_list_all sound_row rows all))

  pub held_kept : held_total rows + t.sum ≤ 3000000000 → held_total (set rows i (new_letter t)) ≤ 3000000000
  held_kept fits = omega (arith, total_set_at_most (λ (row : Letter). row.held) rows i (new_letter t))
