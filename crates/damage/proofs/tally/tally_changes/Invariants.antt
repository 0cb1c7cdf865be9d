use Rattle.std.proofs.Common.{◌≡◌, ℕ, ◌+◌, set, sum}
use Rattle.damage.proofs.tally.tally_changes.Given as goal

abbrev pub invariant-loop-step : goal.invariant-loop-step
invariant-loop-step l = (sum l.tally.counts + 1 ≡ l.step) × ((byte : ℕ) → set l.batch l.index byte ≡ set l.initial.batch l.index byte)
