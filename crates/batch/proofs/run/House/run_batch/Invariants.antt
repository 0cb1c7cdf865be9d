use Rattle.batch.proofs.Running.{Along}
use Rattle.batch.specs.Runs.{run}
use Rattle.batch.proofs.run.House.run_batch.Given as goal

abbrev pub invariant-loop-count : goal.invariant-loop-count
invariant-loop-count g l =
    let policy = g.R.RatingPolicy.coefficient l.self.rating.now in
    let order = g.O.DrawOrder.before l.self.order.now in
    Along policy order (run policy order l.initial.answers 0 0 l.batch l.initial.book.figures) l.batch l.count l.answers l.rest l.book.figures
