-- Runs of damaged batches.
use Rattle.std.specs.Prelude.{◌≡◌, ℕ, cond, List, length, replicate, Some, None, Ok, MatchBool, Option, nat_lt}
use Rattle.batch.specs.Lines.{fault_figures}
use Rattle.batch.specs.Runs.{Run, answered_in, run}
use Rattle.batch.specs.declared.answer.Answer.{Answer}
use Rattle.batch.specs.declared.fault.BatchFault.{BatchFault}
use Rattle.batch.specs.declared.fault.BatchFault.TheVariants.{TooLong}
use Rattle.draw_order.specs.Orders.{earlier_last_day}
use Rattle.ledger.specs.Opening.{empty_on}
use Rattle.ledger.specs.declared.figures.Figures.{Figures}
use Rattle.letters.specs.Letters.{has_letter, letter_row}
use Rattle.ledger.specs.declared.colour.Colour.TheVariants.{Red}
use Rattle.rating.specs.Policies.{flat_zero}
use Rattle.records.specs.declared.kind.Kind.TheVariants.{Opening}
use Rattle.std.specs.Result.{result_err}

-- What a place of the answer list holds before it is filled.
abbrev pub blank : Answer
blank = record { number = 0; kind = Opening; result = Ok tt; colour = Red }

-- The run of a batch on a new book, with eight places for answers.
abbrev pub fresh_run : List ℕ → Run
fresh_run batch = run flat_zero earlier_last_day (replicate 8 blank) 0 0 batch (empty_on 0)

-- What the letter with a number holds, 0 where the book has none.
abbrev pub letter_holds : ℕ → Figures → ℕ
letter_holds number f = cond (has_letter number f.letters.rows) (letter_row number f.letters.rows).held 0

-- How a run on a new book ended: the records that were answered, the fault, and what letter 7 holds in the book that stands.
abbrev pub Tried : List ℕ → ℕ → Option BatchFault → ℕ → Type 0
Tried batch answered fault held =
    MatchBool (nat_lt 16384 (length batch)) ((answered ≡ 0) × (fault ≡ Some TooLong) × (held ≡ 0))
    ((answered ≡ answered_in (fresh_run batch).result) × (fault ≡ result_err (fresh_run batch).result) × (held ≡ letter_holds 7 (fresh_run batch).book))

-- The place of a run in a tally: 0 without a fault, else the fault's number.
abbrev pub ending : Option BatchFault → ℕ
ending None = 0
ending (Some fault) = (fault_figures fault).1
