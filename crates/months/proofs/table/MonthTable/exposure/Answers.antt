use Rattle.std.proofs.Common.{◌≡◌, ◌≤◌, length, min, take, sum_by, arith, rules}
use Rattle.months.proofs.Exposure.{exposure_small}
use Rattle.months.specs.Accounts.{month_exposure}
use Rattle.months.proofs.table.MonthTable.exposure.Goals as goal

pub returns-clause-small : goal.returns-clause-small
returns-clause-small c sound =
    let rows = c.args.self.now.rows in
    let long : length rows ≤ 36 = search rules in
    let is : c.sum.result ≡ sum_by month_exposure (take (min c.args.months 36) rows) = search rules in
    omega (arith, is, long, exposure_small rows (min c.args.months 36) sound)
