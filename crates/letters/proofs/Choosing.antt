-- The letter that goes first, as a walk over the rows finds it.
use Rattle.std.proofs.Common.{◌≡◌, ℕ, zero, suc, ◌+◌, ◌<◌, Bool, true, false, cond, not, ◌||◌, eqb, ◌⊎◌, List, [], ◌∷◌, length, get_or, IfSome, Some, None, Option, sym, refl, ap, ◌∙◌, subst, inl, inr, ⊎_elim, arith, MatchOption}
use Rattle.draw_order.specs.Orders.{CarriesOver, ExactlyOneFirst, Order}
use Rattle.draw_order.specs.declared.LetterFacts.{LetterFacts}
use Rattle.std.proofs.lemmas.Bool.{and_from, and_left, and_parts, both_ways, cases_Bool, cases_eq, cases_lt, cond_both, eq-eqb, eqb-true, not_from_false, not_from_true, or_cases, or_from, or_left, or_parts, or_right}
use Rattle.std.proofs.lemmas.List.Folds.{list_any_at}
use Rattle.std.specs.List.{list_any, position_or_len}
use Rattle.tables.proofs.Places.{every_row_from, no_row_from, only_place}
use Rattle.letters.proofs.Rows.{all_at}
use Rattle.letters.specs.Choosing.{FirstUsable, OnlyFirstUsable, facts, goes_first, usable}
use Rattle.letters.specs.Letters.{booked, distinct_numbers, no_letter, numbered}
use Rattle.letters.specs.declared.letter.Letter.{Letter}
use Rattle.letters.specs.declared.letter.Standing.{Standing}
use Rattle.letters.specs.declared.letter.Standing.TheVariants.{Free, In, Out, Ended}
use Rattle.letters.specs.declared.table.choosing.Candidate.{Candidate}

-- two letters at different places have different numbers
pub different : (rows : List Letter) → distinct_numbers rows ≡ true → (i j : ℕ) → i < j → j < length rows → booked (get_or rows i no_letter) ≡ true → booked (get_or rows j no_letter) ≡ true → (get_or rows i no_letter).number ≡ (get_or rows j no_letter).number → ⊥
different [] distinct i j h within one other same = absurd (omega arith)
different (row ∷ rows) distinct zero zero h within one other same = absurd (omega arith)
different (row ∷ rows) distinct (suc i) zero h within one other same = absurd (omega arith)
different (row ∷ rows) distinct (suc i) (suc j) h within one other same = different rows (and_parts _ _ distinct).1 i j (omega arith) (omega arith) one other same
different (row ∷ rows) distinct zero (suc j) h within one other same = ⊎_elim
    (λ empty. both_ways _ (ap not one) empty)
    (λ absent. both_ways _ (ap not (list_any_at (numbered row.number) rows j no_letter (omega arith) (and_from _ _ other (eq-eqb _ _ (sym same))))) absent)
    (or_cases _ _ (and_parts _ _ distinct).0)

usable_is_booked : (day : ℕ) (row : Letter) → usable day row ≡ true → booked row ≡ true
usable_is_booked day row is = by_standing row.standing (and_parts _ _ (and_parts _ _ is).0).0
  where
    by_standing : (s : Standing) → elim s [ Free ↦ false | In ↦ true | Out demanded ↦ false | Ended ↦ false ] ≡ true → elim s [ Free ↦ false | In ↦ true | Out demanded ↦ true | Ended ↦ true ] ≡ true
    by_standing Free is = is
    by_standing In is = is
    by_standing (Out demanded) is = refl
    by_standing Ended is = refl

module _ (before : Order) (day : ℕ) (rows : List Letter) where
  abbrev at : ℕ → Letter
  at i = get_or rows i no_letter

  -- the letter at this place goes first among the usable ones in front of i
  pub record Ahead (i place : ℕ) : Type 0 where
    pub in_front : place < i
    pub is_usable : usable day (at place) ≡ true
    pub ahead : distinct_numbers rows ≡ true → (other : ℕ) → other < i → usable day (at other) ≡ true → (other ≡ place → ⊥) → before (facts (at place)) (facts (at other)) ≡ true

  -- what a walk knows that has come to i
  abbrev pub Leads : ℕ → Option Candidate → Type 0
  Leads i first = MatchOption first ((other : ℕ) → other < i → usable day (at other) ≡ false) (λ c. (c.facts ≡ facts (at c.index)) × Ahead i c.index)

  up_to : {P : ℕ → Type 0} (i : ℕ) → ((other : ℕ) → other < i → P other) → P i → (other : ℕ) → other < i + 1 → P other
  up_to {P} i below here other h = ⊎_elim (below other) (λ same. subst P (sym same) here) (which other i h)
    where
      which : (other i : ℕ) → other < i + 1 → (other < i) ⊎ (other ≡ i)
      which other i h = ⊎_elim inl (λ h'. inr (omega arith)) (cases_lt other i)

  pub passed_over : (i : ℕ) (first : Option Candidate) → usable day (at i) ≡ false → Leads i first → Leads (i + 1) first
  passed_over i None not_usable none = up_to i none not_usable
  passed_over i (Some c) not_usable (is, lead) = (
    is,
    record {
      in_front = omega (arith, lead.in_front);
      is_usable = lead.is_usable;
      ahead = λ distinct. up_to i (lead.ahead distinct) (λ usable'. absurd (both_ways _ not_usable usable'));
    },
  )

  -- the one of two letters that goes first
  abbrev pub first_of : ℕ → LetterFacts → Option Candidate → Candidate
  first_of i known first = elim first [ None ↦ record { index = i; facts = known } | Some c ↦ cond (before known c.facts) (record { index = i; facts = known }) c ]

  module _ (one_first : ExactlyOneFirst before) (carries : CarriesOver before) (i : ℕ) (h : i < length rows) (here : usable day (at i) ≡ true) where
    alone : ((other : ℕ) → other < i → usable day (at other) ≡ false) → Ahead (i + 1) i
    alone none =
        record {
          in_front = omega arith;
          is_usable = here;
          ahead = λ distinct. up_to i (λ other h' usable'. absurd (both_ways _ (none other h') usable')) (λ _ not_same. absurd (not_same refl));
        }

    wins : (place : ℕ) → before (facts (at i)) (facts (at place)) ≡ true → Ahead i place → Ahead (i + 1) i
    wins place wins' lead =
        record {
          in_front = omega arith;
          is_usable = here;
          ahead = λ distinct. up_to i (λ other h' usable' _. over other (cases_eq other place) h' usable' distinct) (λ _ not_same. absurd (not_same refl));
        }
      where
        over : (other : ℕ) → (other ≡ place) ⊎ (other ≡ place → ⊥) → other < i → usable day (at other) ≡ true → distinct_numbers rows ≡ true → before (facts (at i)) (facts (at other)) ≡ true
        over other (inl same) h' usable' distinct = subst (λ p. before (facts (at i)) (facts (at p)) ≡ true) (sym same) wins'
        over other (inr not_same) h' usable' distinct = carries _ _ _ wins' (lead.ahead distinct other h' usable' not_same)

    stays : (place : ℕ) → before (facts (at i)) (facts (at place)) ≡ false → Ahead i place → Ahead (i + 1) place
    stays place loses lead =
        record {
          in_front = omega (arith, lead.in_front);
          is_usable = lead.is_usable;
          ahead = λ distinct. up_to i (lead.ahead distinct) (λ _ _. one_first _ _ (different rows distinct place i lead.in_front h (usable_is_booked day (at place) lead.is_usable) (usable_is_booked day (at i) here)) ∙ ap not loses);
        }

    pub taken : (first : Option Candidate) → Leads i first → Leads (i + 1) (Some (first_of i (facts (at i)) first))
    taken None none = (refl, alone none)
    taken (Some c) (is, lead) = cond_both _ _ _ (λ (c' : Candidate). (c'.facts ≡ facts (at c'.index)) × Ahead (i + 1) c'.index)
        (λ wins'. (refl, wins c.index (ap (before (facts (at i))) (sym is) ∙ wins') lead))
        (λ loses. (is, stays c.index (ap (before (facts (at i))) (sym is) ∙ loses) lead))

  module _ (i : ℕ) (end : i ≡ length rows) where
    pub some_found : (first : Option Candidate) → Leads i first → MatchOption first (list_any (usable day) rows ≡ false) (λ c. (c.index < length rows) × (usable day (at c.index) ≡ true))
    some_found None none = no_row_from (usable day) no_letter rows (λ other h. none other (omega (arith, end)))
    some_found (Some c) (is, lead) = (omega (arith, end, lead.in_front), lead.is_usable)

    pub first_found : (first : Option Candidate) → Leads i first → distinct_numbers rows ≡ true → IfSome first (λ c. FirstUsable before day rows c.index)
    first_found None none distinct = tt
    first_found (Some c) (is, lead) distinct =
        record {
          within = omega (arith, end, lead.in_front);
          is_usable = lead.is_usable;
          before_others = λ other h. lead.ahead distinct other (omega (arith, end));
        }

-- a letter that goes first is the only one that does, and the first that is found
module _ (before : Order) (one_first : ExactlyOneFirst before) (day : ℕ) (rows : List Letter) (distinct : distinct_numbers rows ≡ true) where
  abbrev row : ℕ → Letter
  row i = get_or rows i no_letter

  numbers_differ : (i j : ℕ) → i < length rows → j < length rows → usable day (row i) ≡ true → usable day (row j) ≡ true → (i ≡ j → ⊥) → (row i).number ≡ (row j).number → ⊥
  numbers_differ i j hi hj one other not_same same = ⊎_elim
      (λ h. different rows distinct i j h hj (usable_is_booked day (row i) one) (usable_is_booked day (row j) other) same)
      (λ h. different rows distinct j i (omega (arith, not_same)) hi (usable_is_booked day (row j) other) (usable_is_booked day (row i) one) (sym same))
      (cases_lt i j)

  same_place : (i j : ℕ) → i < length rows → j < length rows → usable day (row i) ≡ true → usable day (row j) ≡ true → ((i ≡ j → ⊥) → before (facts (row i)) (facts (row j)) ≡ true) → ((i ≡ j → ⊥) → before (facts (row j)) (facts (row i)) ≡ true) → i ≡ j
  same_place i j hi hj one other first second = ⊎_elim
      (λ same. same)
      (λ not_same. absurd (both_ways _ (one_first _ _ (numbers_differ i j hi hj one other not_same) ∙ ap not (second not_same)) (first not_same)))
      (cases_eq i j)

  pub only : (place : ℕ) → FirstUsable before day rows place → OnlyFirstUsable before day rows place
  only place first = (
    first,
    λ other first'. same_place other place first'.within first.within first'.is_usable first.is_usable
        (λ not_same. first'.before_others place first.within first.is_usable (λ same. not_same (sym same)))
        (first.before_others other first'.within first'.is_usable),
  )

  abbrev beaten_by : Letter → Letter → Bool
  beaten_by first other = not (usable day other) || eqb other.number first.number || before (facts first) (facts other)

  test_passes : (place : ℕ) → FirstUsable before day rows place → goes_first before day rows (row place) ≡ true
  test_passes place first = and_from _ _ first.is_usable (every_row_from (beaten_by (row place)) no_letter rows (λ other h. beaten other h (cases_Bool (usable day (row other))) (cases_eq other place)))
    where
      beaten : (other : ℕ) → other < length rows → (usable day (row other) ≡ true) ⊎ (usable day (row other) ≡ false) → (other ≡ place) ⊎ (other ≡ place → ⊥) → beaten_by (row place) (row other) ≡ true
      beaten other h (inr not_usable) which = or_left _ _ (or_left _ _ (not_from_false _ not_usable))
      beaten other h (inl is_usable) (inl same) = or_left _ _ (or_right _ _ (eq-eqb _ _ (ap (λ p. (row p).number) same)))
      beaten other h (inl is_usable) (inr not_same) = or_right _ _ (first.before_others other h is_usable not_same)

  passes_alone : (place : ℕ) → FirstUsable before day rows place → (other : ℕ) → other < length rows → goes_first before day rows (row other) ≡ true → other ≡ place
  passes_alone place first other h passes =
      let parts = and_parts _ _ passes in
      let beaten = all_at (beaten_by (row other)) rows place first.within parts.1 in
      same_place other place h first.within parts.0 first.is_usable
      (λ not_same. ⊎_elim
      (λ either. ⊎_elim
      (λ not_usable. absurd (both_ways _ (not_from_true _ first.is_usable) not_usable))
      (λ same_number. absurd (numbers_differ other place h first.within parts.0 first.is_usable not_same (sym (eqb-true _ _ same_number))))
      (or_cases _ _ either))
      (λ before_it. before_it)
      (or_cases _ _ beaten))
      (first.before_others other h parts.0)

  pub found_first : (place : ℕ) → FirstUsable before day rows place → (list_any (goes_first before day rows) rows ≡ true) × (place ≡ position_or_len (goes_first before day rows) rows)
  found_first place first = (
    list_any_at (goes_first before day rows) rows place no_letter first.within (test_passes place first),
    only_place (goes_first before day rows) no_letter rows place first.within (test_passes place first) (passes_alone place first),
  )

-- where none is usable none goes first
pub none_goes_first : (before : Order) (day : ℕ) (all rows : List Letter) → list_any (usable day) rows ≡ false → list_any (goes_first before day all) rows ≡ false
none_goes_first before day all [] none = refl
none_goes_first before day all (row ∷ rows) none = let parts = or_parts _ _ none in or_from _ _ (and_left _ _ parts.0) (none_goes_first before day all rows parts.1)
