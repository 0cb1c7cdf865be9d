-- How far the run of a batch has come, and one record more.
use Rattle.std.proofs.Common.{◌≡◌, ℕ, ◌+◌, ◌-◌, ◌<◌, ◌≤◌, true, false, eqb, List, [], ◌∷◌, ◌++◌, length, get_or, take, drop, set, Some, None, Ok, Err, Result, sym, refl, ap, ◌∙◌, append_assoc, append-nil, arith, length-drop, take-append-drop}
use Rattle.draw_order.specs.Orders.{Order}
use Rattle.ledger.specs.declared.figures.Figures.{Figures}
use Rattle.rating.specs.Policies.{Coefficient}
use Rattle.refusals.proofs.Joining.{none_in_first}
use Rattle.refusals.specs.Conditions.{first_given}
use Rattle.std.proofs.lemmas.List.{drop_all, drop_more, drop-set-lt, take_more_set, take_all}
use Rattle.std.proofs.lemmas.Bool.{cond-false, cond-true}
use Rattle.records.proofs.Reading.{has_bytes}
use Rattle.records.specs.Records.{record_faults, record_in, record_length}
use Rattle.batch.specs.Runs.{Run, answer_to, answered, book_after_record, ended, faults, located, run, stopped, turn_faults, unless_fault}
use Rattle.batch.specs.declared.answer.Answer.{Answer}
use Rattle.batch.specs.declared.fault.FaultAt.{FaultAt}
use Rattle.batch.specs.declared.fault.Position.{Position}
use Rattle.records.specs.declared.fault.RecordFault.{RecordFault}
use Rattle.records.specs.declared.fault.RecordFault.TheVariants.{ListFull}

-- the steps of a run
module _ (policy : Coefficient) (order : Order) (n offset : ℕ) (bytes : List ℕ) (f : Figures) where
  pub run_ends : (places : List Answer) → eqb (length bytes) 0 ≡ true → run policy order places n offset bytes f ≡ ended places f n
  unfolding run
  run_ends [] empty = cond-true _ _ _ empty
  run_ends (place ∷ places) empty = cond-true _ _ _ empty

  pub run_full : eqb (length bytes) 0 ≡ false → run policy order [] n offset bytes f ≡ stopped [] f n offset ListFull
  unfolding run
  run_full more = cond-false _ _ _ more

  module _ (place : Answer) (places : List Answer) (more : eqb (length bytes) 0 ≡ false) where
    abbrev next : Run
    next = run policy order places (n + 1) (offset + record_length bytes) (drop (record_length bytes) bytes) (book_after_record f (record_in bytes))

    cases : run policy order (place ∷ places) n offset bytes f ≡ unless_fault (first_given (faults (n + 1) f bytes)) (stopped (place ∷ places) f n offset) (answered (answer_to policy (n + 1) f (record_in bytes)) next)
    unfolding run
    cases = cond-false _ _ _ more

    pub run_stops : {fault : RecordFault} → first_given (faults (n + 1) f bytes) ≡ Some fault → run policy order (place ∷ places) n offset bytes f ≡ stopped (place ∷ places) f n offset fault
    run_stops some = cases ∙ ap (λ given. unless_fault given (stopped (place ∷ places) f n offset) (answered (answer_to policy (n + 1) f (record_in bytes)) next)) some

    pub run_goes_on : first_given (faults (n + 1) f bytes) ≡ None → run policy order (place ∷ places) n offset bytes f ≡ answered (answer_to policy (n + 1) f (record_in bytes)) next
    run_goes_on none = cases ∙ ap (λ given. unless_fault given (stopped (place ∷ places) f n offset) (answered (answer_to policy (n + 1) f (record_in bytes)) next)) none

-- answers that stand before those of a run
abbrev behind : List Answer → Run → Run
behind front r = record { answers = front ++ r.answers; book = r.book; result = r.result }

answered_behind : (front : List Answer) (answer : Answer) (r : Run) → behind front (answered answer r) ≡ behind (front ++ answer ∷ []) r
answered_behind front answer r = ap (λ l. record { answers = l; book = r.book; result = r.result }) (sym (append_assoc front (answer ∷ []) r.answers))

-- the run of some bytes has answered i records: what is left gives what the whole run gives
pub record Along (policy : Coefficient) (order : Order) (whole : Run) (bytes : List ℕ) (i : ℕ) (places : List Answer) (rest : List ℕ) (f : Figures) : Type 0 where
  pub within : length rest ≤ length bytes
  pub same : whole ≡ behind (take i places) (run policy order (drop i places) i (length bytes - length rest) rest f)

module _ {policy : Coefficient} {order : Order} {whole : Run} {bytes : List ℕ} {i : ℕ} {places : List Answer} {rest : List ℕ} {f : Figures} (s : Along policy order whole bytes i places rest f) where
  -- the offset of the next record
  abbrev here : ℕ
  here = length bytes - length rest

  pub at_end : eqb (length rest) 0 ≡ true → whole ≡ ended places f i
  at_end empty = s.same ∙ ap (behind (take i places)) (run_ends policy order i here rest f (drop i places) empty) ∙ ap (λ l. ended l f i) (take-append-drop i places)

  pub at_full : length places ≤ i → eqb (length rest) 0 ≡ false → whole ≡ stopped places f i (length bytes - length rest) ListFull
  at_full full more =
      s.same ∙ ap (λ l. behind (take i places) (run policy order l i here rest f)) (drop_all i places full)
      ∙ ap (behind (take i places)) (run_full policy order i here rest f more) ∙ ap (λ l. stopped l f i here ListFull) (append-nil (take i places) ∙ take_all i places full)

  -- some answer, for the places that are read within the list
  abbrev place : Answer
  place = answer_to policy i f (record_in rest)

  module _ (inside : i < length places) (more : eqb (length rest) 0 ≡ false) where
    split : drop i places ≡ get_or places i place ∷ drop (i + 1) places
    split = drop_more places i place inside

    pub at_fault : {fault : RecordFault} → first_given (faults (i + 1) f rest) ≡ Some fault → whole ≡ stopped places f i (length bytes - length rest) fault
    at_fault {fault} some =
        s.same ∙ ap (λ l. behind (take i places) (run policy order l i here rest f)) split
        ∙ ap (behind (take i places)) (run_stops policy order i here rest f (get_or places i place) (drop (i + 1) places) more some)
        ∙ ap (λ l. stopped (take i places ++ l) f i here fault) (sym split) ∙ ap (λ l. stopped l f i here fault) (take-append-drop i places)

    pub one_more : {answer : Answer} {next : List ℕ} {after : Figures} → first_given (faults (i + 1) f rest) ≡ None → answer ≡ answer_to policy (i + 1) f (record_in rest) → next ≡ drop (record_length rest) rest → after ≡ book_after_record f (record_in rest) → Along policy order whole bytes (i + 1) (set places i answer) next after
    one_more {answer} {next} {after} none a r b =
        let read = record_length rest in
        let full = has_bytes rest (none_in_first (record_faults rest) (turn_faults (i + 1) f (record_in rest)) none) in
        let shorter = ap length r ∙ length-drop read rest in
        let untouched = drop-set-lt (i + 1) places i answer (omega arith) in
        let left = run policy order (drop (i + 1) (set places i answer)) (i + 1) (length bytes - length next) next after in
        let on : here + read ≡ length bytes - length next = omega (arith, s.within) in
        record {
          within = omega (arith, s.within);
          same =
              s.same ∙ ap (λ l. behind (take i places) (run policy order l i here rest f)) split
              ∙ ap (behind (take i places)) (run_goes_on policy order i here rest f (get_or places i place) (drop (i + 1) places) more none)
              ∙ (λ j. behind (take i places) (answered (sym a j) (run policy order (sym untouched j) (i + 1) (on j) (sym r j) (sym b j))))
              ∙ answered_behind (take i places) answer left ∙ ap (λ l. behind l left) (sym (take_more_set places i answer inside));
        }

-- what is located at a position was so before
pub located_ok : {T : Type 0} (position : Position) (r : Result T RecordFault) {x : T} → located position r ≡ Ok x → r ≡ Ok x
located_ok position (Ok y) e = cc
located_ok position (Err fault) e = absurd (let z : ◌≡◌ {A = ℕ} 0 1 = cc in omega arith)

pub located_err : {T : Type 0} (position : Position) (r : Result T RecordFault) {at : FaultAt} → located position r ≡ Err at → (fault : RecordFault) × (r ≡ Err fault) × (at ≡ record { position = position; fault = fault })
located_err position (Ok y) e = absurd (let z : ◌≡◌ {A = ℕ} 0 1 = cc in omega arith)
located_err position (Err fault) e = (fault, refl, cc)
