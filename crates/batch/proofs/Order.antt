-- The answers of a run stand at the front of the list, in the order of the batch.
use Rattle.std.proofs.Common.{◌≡◌, ℕ, zero, suc, ◌+◌, ◌<◌, ◌≤◌, Bool, true, false, cond, eqb, List, [], ◌∷◌, length, get_or, drop, Some, None, Option, Result, sym, refl, ap, ◌∙◌, subst₂, le_of_suc-le-suc, arith}
use Rattle.draw_order.specs.Orders.{Order}
use Rattle.ledger.specs.declared.figures.Figures.{Figures}
use Rattle.rating.specs.Policies.{Coefficient}
use Rattle.refusals.specs.Conditions.{first_given}
use Rattle.records.specs.Records.{record_in, record_length}
use Rattle.batch.specs.Runs.{InOrder, Ran, Run, answered, answered_in, book_after_record, ended, faults, run, stopped, unless_fault}
use Rattle.batch.specs.declared.answer.Answer.{Answer}
use Rattle.batch.specs.declared.fault.BatchFault.{BatchFault}
use Rattle.records.specs.declared.fault.RecordFault.{RecordFault}
use Rattle.records.specs.declared.fault.RecordFault.TheVariants.{ListFull}

-- a run that starts behind n answers has k more in order
record From (n : ℕ) (places : List Answer) (r : Run) (k : ℕ) : Type 0 where
  many : answered_in r.result ≡ n + k
  fits : k ≤ length places
  numbered : (j : ℕ) (d : Answer) → j < k → (get_or r.answers j d).number ≡ n + j + 1
  untouched : drop k r.answers ≡ drop k places

-- some number of answers more
abbrev SomeMore : ℕ → List Answer → Run → Type 0
SomeMore n places r = (k : ℕ) × From n places r k

none_more : (n : ℕ) (places : List Answer) (r : Run) → answered_in r.result ≡ n → r.answers ≡ places → SomeMore n places r
none_more n places r many same = (0, record { many = omega arith; fits = omega arith; numbered = λ j d h. absurd (omega arith); untouched = same })

one_more : (n : ℕ) (place : Answer) (places : List Answer) (answer : Answer) (r : Run) → answer.number ≡ n + 1 → SomeMore (n + 1) places r → SomeMore n (place ∷ places) (answered answer r)
one_more n place places answer r first more = (
  suc more.0,
  record {
    many = omega (arith, more.1.many);
    fits = omega (arith, more.1.fits);
    numbered = number;
    untouched = more.1.untouched;
  },
)
  where
    number : (j : ℕ) (d : Answer) → j < suc more.0 → (get_or (answer ∷ r.answers) j d).number ≡ n + j + 1
    number zero d h = omega arith
    number (suc j) d h = omega (arith, more.1.numbered j d (le_of_suc-le-suc h))

module _ (policy : Coefficient) (order : Order) where
  -- by whether the bytes are at their end, and by the record's fault
  place_by : (n offset : ℕ) (place : Answer) (places : List Answer) (f : Figures) (answer : Answer) (next : Run) (empty : Bool) (fault : Option RecordFault) → answer.number ≡ n + 1 → SomeMore (n + 1) places next → SomeMore n (place ∷ places) (cond empty (ended (place ∷ places) f n) (unless_fault fault (stopped (place ∷ places) f n offset) (answered answer next)))
  place_by n offset place places f answer next true fault first more = none_more n _ _ refl refl
  place_by n offset place places f answer next false (Some fault) first more = none_more n _ _ (omega arith) refl
  place_by n offset place places f answer next false None first more = one_more n place places answer next first more

  full_by : (n offset : ℕ) (f : Figures) (empty : Bool) → SomeMore n [] (cond empty (ended [] f n) (stopped [] f n offset ListFull))
  full_by n offset f true = none_more n _ _ refl refl
  full_by n offset f false = none_more n _ _ (omega arith) refl

  goes : (places : List Answer) (n offset : ℕ) (bytes : List ℕ) (f : Figures) → SomeMore n places (run policy order places n offset bytes f)
  unfolding run
  goes [] n offset bytes f = full_by n offset f (eqb (length bytes) 0)
  goes (place ∷ places) n offset bytes f =
      place_by n offset place places f _ _ (eqb (length bytes) 0) (first_given (faults (n + 1) f bytes)) refl
      (goes places (n + 1) (offset + record_length bytes) (drop (record_length bytes) bytes) (book_after_record f (record_in bytes)))

  pub in_order : (places : List Answer) (bytes : List ℕ) (f : Figures) → InOrder places (run policy order places 0 0 bytes f).answers (answered_in (run policy order places 0 0 bytes f).result)
  in_order places bytes f =
      let more = goes places 0 0 bytes f in
      let k = more.0 in
      let is : answered_in (run policy order places 0 0 bytes f).result ≡ k = omega (arith, more.1.many) in
      record {
        fits = omega (arith, more.1.fits);
        numbered = λ j d h. omega (arith, more.1.numbered j d (omega arith));
        untouched = ap (λ m. drop m (run policy order places 0 0 bytes f).answers) is ∙ more.1.untouched ∙ ap (λ m. drop m places) (sym is);
      }

  -- a run that has come to its end leaves what the rules define
  pub leaves : (places : List Answer) (bytes : List ℕ) (f : Figures) {end : Run} {result : Result ℕ BatchFault} {answers : List Answer} {book : Figures} → run policy order places 0 0 bytes f ≡ end → result ≡ end.result → answers ≡ end.answers → book ≡ end.book → Ran policy order bytes places f result answers book
  leaves places bytes f is r a b =
      let result_is = r ∙ ap (λ (x : Run). x.result) (sym is) in
      let answers_are = a ∙ ap (λ (x : Run). x.answers) (sym is) in
      record {
        result_is = result_is;
        answers_are = answers_are;
        book_is = b ∙ ap (λ (x : Run). x.book) (sym is);
        in_order = subst₂ (λ l n. InOrder places l n) (sym answers_are) (sym (ap answered_in result_is)) (in_order places bytes f);
      }
