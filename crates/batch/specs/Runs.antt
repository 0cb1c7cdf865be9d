-- What the run of a batch does.
use Rattle.std.specs.Prelude.{◌≡◌, ℕ, ◌+◌, ◌-◌, ◌<◌, ◌≤◌, Bool, true, false, cond, not, ◌&&◌, List, [], ◌∷◌, ◌++◌, length, drop, Some, None, Ok, Err, Option, Result, ◌==◌, slice_index_or}
use Rattle.draw_order.specs.Orders.{Order}
use Rattle.ledger.specs.Limits.{colour}
use Rattle.ledger.specs.Lodge.{lodge_conditions, lodged}
use Rattle.ledger.specs.Opening.{empty_on, opening_outcome}
use Rattle.std.specs.Result.{is_ok}
use Rattle.ledger.specs.Outcomes.{Outcome, book_after, outcome_of}
use Rattle.ledger.specs.declared.figures.Figures.{Figures}
use Rattle.rating.specs.Policies.{Coefficient}
use Rattle.refusals.specs.Conditions.{Condition, ◌gives◌, first_given}
use Rattle.records.specs.Records.{entry_kind, record_faults, record_in, record_length}
use Rattle.batch.specs.declared.answer.Answer.{Answer}
use Rattle.batch.specs.declared.fault.BatchFault.{BatchFault}
use Rattle.batch.specs.declared.fault.BatchFault.TheVariants.{AtRecord, TooLong}
use Rattle.batch.specs.declared.fault.FaultAt.{FaultAt}
use Rattle.batch.specs.declared.fault.Position.{Position}
use Rattle.records.specs.declared.fault.RecordFault.{RecordFault}
use Rattle.records.specs.declared.fault.RecordFault.TheVariants.{OutOfTurn, ListFull}
use Rattle.records.specs.declared.record.Entry.TheVariants.{Opening, Lodge}
use Rattle.records.specs.declared.record.Record.{Record}

-- What the opening or posting of a record answers.
abbrev pub record_outcome : Figures → Record → Outcome
record_outcome f r = elim r.entry [ Opening day ↦ opening_outcome r.party day | Lodge terms ↦ outcome_of (first_given (lodge_conditions f r.party terms)) ]

-- The book after it.
abbrev pub book_after_record : Figures → Record → Figures
book_after_record f r = book_after (record_outcome f r) f (elim r.entry [ Opening day ↦ empty_on day | Lodge terms ↦ lodged f terms ])

-- The answer to the record with this number.
abbrev pub answer_to : Coefficient → ℕ → Figures → Record → Answer
answer_to policy number f r = record { number = number; kind = entry_kind r.entry; result = record_outcome f r; colour = colour policy (book_after_record f r) }

abbrev pub opens : Record → Bool
opens r = elim r.entry [ Opening day ↦ true | Lodge terms ↦ false ]

-- The first record is an opening that is accepted, and no later record is an opening.
abbrev pub turn_faults : ℕ → Figures → Record → List (Condition RecordFault)
turn_faults number f r = not (cond (number == 1) (opens r && is_ok (record_outcome f r)) (not (opens r))) gives OutOfTurn ∷ []

-- All faults of a record in their order, where a place is left for its answer.
abbrev pub faults : ℕ → Figures → List ℕ → List (Condition RecordFault)
faults number f bytes = record_faults bytes ++ turn_faults number f (record_in bytes)

-- A record's fault at its place in the batch.
abbrev pub located : {T : Type 0} → Position → Result T RecordFault → Result T FaultAt
located position (Ok x) = Ok x
located position (Err fault) = Err (record { position = position; fault = fault })

-- Where a run has come to: the list of answers, the book, and how many records were answered or which fault stopped it.
pub record Run : Type 0 where
  pub answers : List Answer
  pub book : Figures
  pub result : Result ℕ BatchFault

-- The bytes have come to their end: n records were answered.
abbrev pub ended : List Answer → Figures → ℕ → Run
ended places f n = record { answers = places; book = f; result = Ok n }

-- A fault of the next record, at this offset. The answers before it and the book that they made stand.
abbrev pub stopped : List Answer → Figures → ℕ → ℕ → RecordFault → Run
stopped places f n offset fault = record { answers = places; book = f; result = Err (AtRecord (record { position = record { number = n + 1; offset = offset }; fault = fault })) }

-- A record is answered, and the run goes on.
abbrev pub answered : Answer → Run → Run
answered answer next = record { answers = answer ∷ next.answers; book = next.book; result = next.result }

abbrev pub unless_fault : Option RecordFault → (RecordFault → Run) → Run → Run
unless_fault None stop next = next
unless_fault (Some fault) stop next = stop fault

-- The run of the bytes that are left, with the places that are left, when n records were answered.
unfoldable pub run : Coefficient → Order → List Answer → ℕ → ℕ → List ℕ → Figures → Run
run policy order [] n offset bytes f = cond (length bytes == 0) (ended [] f n) (stopped [] f n offset ListFull)
run policy order (place ∷ places) n offset bytes f =
    let r = record_in bytes in
    let next = run policy order places (n + 1) (offset + record_length bytes) (drop (record_length bytes) bytes) (book_after_record f r) in
    cond (length bytes == 0) (ended (place ∷ places) f n)
    (unless_fault (first_given (faults (n + 1) f bytes)) (stopped (place ∷ places) f n offset) (answered (answer_to policy (n + 1) f r) next))

-- How many records were answered: all, or those before the fault.
abbrev pub answered_in : Result ℕ BatchFault → ℕ
answered_in (Ok n) = n
answered_in (Err (AtRecord at)) = at.position.number - 1
answered_in (Err TooLong) = 0

-- In other words: the answers stand at the front of the list, one for each record in the order of the batch, and the
-- places behind them are as they were.
pub record InOrder (before after : List Answer) (answered : ℕ) : Type 0 where
  pub fits : answered ≤ length before
  pub numbered : (k : ℕ) (d : Answer) → k < answered → (slice_index_or after k d).number ≡ k + 1
  pub untouched : drop answered after ≡ drop answered before

-- What the run of a batch leaves: the result, the list and the book that the rules define.
pub record Ran (policy : Coefficient) (order : Order) (batch : List ℕ) (places : List Answer) (f : Figures) (result : Result ℕ BatchFault) (answers : List Answer) (book : Figures) : Type 0 where
  pub result_is : result ≡ (run policy order places 0 0 batch f).result
  pub answers_are : answers ≡ (run policy order places 0 0 batch f).answers
  pub book_is : book ≡ (run policy order places 0 0 batch f).book
  pub in_order : InOrder places answers (answered_in result)
