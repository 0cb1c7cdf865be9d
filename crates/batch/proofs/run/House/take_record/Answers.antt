use Rattle.std.proofs.Common.{sym, ap, ◌∙◌}
use Rattle.refusals.proofs.Joining.{joined}
use Rattle.std.specs.Option.{option_or}
use Rattle.refusals.specs.Conditions.{first_given}
use Rattle.std.proofs.lemmas.Result.{err_from_is_err_and}
use Rattle.records.specs.Records.{record_faults, record_in}
use Rattle.batch.specs.Runs.{turn_faults}
use Rattle.batch.proofs.run.House.take_record.Goals as goal

pub returns-in_err-answer : goal.returns-in_err-answer
returns-in_err-answer g c =
    let bytes = c.args.part.now in
    let turn = turn_faults c.args.number c.args.book.now.figures (record_in bytes) in
    let read = c.in_ok-record.ensures.reads in
    let posted = c.in_err-answer.ensures in
    let p = err_from_is_err_and c.from_residual-in_err-answer.result c.from_residual-in_err-answer.ensures.1 in
    rw (p.1, p.2) (record {
      fault = joined (record_faults bytes) turn ∙ ap (λ given. option_or given (first_given turn)) read.0 ∙ ap (λ r. first_given (turn_faults c.args.number c.args.book.now.figures r)) (sym read.1.0) ∙ posted.fault;
      after = posted.after;
    })
