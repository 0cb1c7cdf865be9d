use Rattle.std.proofs.Common.{Some, rules}
use Rattle.tables.proofs.Places.{finds_first}
use Rattle.tables.proofs.first_place.Goals as goal

pub returns-in_err-index-clause-first : goal.returns-in_err-index-clause-first
returns-in_err-index-clause-first g c = finds_first (g.Q.RowTest.passes c.args.question.now) (λ i. i) c.args.rows.now c.from_residual.result (search rules) (search rules)

pub returns-clause-first : goal.returns-clause-first
returns-clause-first g c = finds_first (g.Q.RowTest.passes c.args.question.now) (λ i. i) c.args.rows.now (Some c.in_ok-index.index) (search rules) (search rules)
