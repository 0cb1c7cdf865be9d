use Rattle.std.proofs.Common.{◌∙◌, ap, get_or, set, arith}
use Rattle.damage.proofs.tally.tally_changes.Goals.{else-loop-step-test, then-loop-step-test+else-step-lt255}
use Rattle.std.proofs.lemmas.List.{set-get_or, set-set}
use Rattle.damage.proofs.tally.tally_changes.Goals as goal

pub loop-step-preserved : goal.loop-step-preserved
loop-step-preserved c = (omega (arith, c.note.ensures.total), λ byte. set-set c.loop-step.batch c.args.index _ byte ∙ c.loop-step.invariant.1 byte)

pub returns-clause-restored : goal.returns-clause-restored
returns-clause-restored c =
    let b = get_or c.args.batch.now c.args.index 0 in
    let back = c.loop-step.invariant.1 b ∙ set-get_or c.args.batch.now c.args.index 0 in
    elim c.loop-step-test.branch [
      | else-loop-step-test w ↦ ap (λ l. set l c.args.index b) w.batch-is ∙ back
      | then-loop-step-test+else-step-lt255 w ↦ ap (λ l. set l c.args.index b) w.batch-is ∙ set-set c.loop-step.batch c.args.index _ b ∙ back
    ]
