-- What a search of the rows by a closure finds, and what holds at each place of rows that all pass a test.
use Rattle.std.proofs.Common.{◌≡◌, ℕ, ◌<◌, Bool, true, false, List, length, get_or, Some, None, Option, sym, arith, MatchOption}
use Rattle.std.proofs.lemmas.List.Elements.{All-get_or}
use Rattle.std.proofs.lemmas.List.Sums.{AllPass-from_list_all}
use Rattle.std.specs.Borrow.{Bor}
use Rattle.std.specs.Fn.{FnReturnsAt}
use Rattle.std.specs.List.{AllWithin, HoldsAt, list_all}
use denote.Param.Members.{Shared}
use Rattle.tables.proofs.Places.{finds_first as finds}
use Rattle.tables.specs.Rows.{FindsFirst}
use Rattle.letters.specs.Letters.{no_letter}
use Rattle.letters.specs.declared.letter.Letter.{Letter}
use Rattle.letters.specs.declared.table.Place.{Place}

pub all_at : (p : Letter → Bool) (rows : List Letter) (i : ℕ) → i < length rows → list_all p rows ≡ true → p (get_or rows i no_letter) ≡ true
all_at p rows i h all = All-get_or (λ row. p row ≡ true) rows i no_letter h (AllPass-from_list_all p rows all)

-- what a search by a closure finds, where the closure computes a test
module _ {F : Type 0} {g : Shared F (Bor Letter × Unit {0}) Bool} {f : F} (p : Letter → Bool) (rows : List Letter) (gives : (row : Letter) (b : Bool) → FnReturnsAt g f row b → b ≡ p row) (long : length rows ≡ 24) where
  pub finds_first : (found : Option Place) → MatchOption found (AllWithin (λ row. FnReturnsAt g f row false) rows 0 24) (λ place. HoldsAt (λ row. FnReturnsAt g f row true) rows place.index × AllWithin (λ row. FnReturnsAt g f row false) rows 0 place.index) → FindsFirst p rows (λ place. place.index) found
  finds_first None none = finds p (λ (place : Place). place.index) rows None tt (λ i d low h. sym (gives _ _ (none i d low (omega (arith, h, long)))))
  finds_first (Some place) (here, before) = finds p (λ (place : Place). place.index) rows (Some place) (omega (arith, place.within, long)) (λ d. sym (gives _ _ (here d)), λ i d low h. sym (gives _ _ (before i d low h)))
