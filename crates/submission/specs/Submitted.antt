-- What the house does with a batch that is handed in.
use Rattle.std.specs.Prelude.{◌≡◌, ℕ, List, length, Err, MatchBool, Result, nat_lt}
use Rattle.batch.specs.Runs.{Ran}
use Rattle.batch.specs.declared.answer.Answer.{Answer}
use Rattle.batch.specs.declared.fault.BatchFault.{BatchFault}
use Rattle.batch.specs.declared.fault.BatchFault.TheVariants.{TooLong}
use Rattle.draw_order.specs.Orders.{earlier_last_day}
use Rattle.ledger.specs.declared.figures.Figures.{Figures}
use Rattle.rating.specs.Policies.{flat_zero}

-- A batch of more than 16,384 bytes leaves list and book as they are. Any other is run with the flat policy and the
-- earliest last day.
abbrev pub Submitted : List ℕ → List Answer → Figures → Result ℕ BatchFault → List Answer → Figures → Type 0
Submitted batch places f result answers book =
    MatchBool (nat_lt 16384 (length batch)) ((result ≡ Err TooLong) × (answers ≡ places) × (book ≡ f)) (Ran flat_zero earlier_last_day batch places f result answers book)
