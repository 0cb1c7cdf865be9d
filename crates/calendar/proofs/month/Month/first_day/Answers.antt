use Rattle.std.proofs.Common.{◌+◌, arith}
use Rattle.calendar.proofs.Starts.{later, no_later_than, after_last}
use Rattle.calendar.proofs.month.Month.first_day.Goals as goal

pub invariant_of-result : goal.invariant_of-result
invariant_of-result c = let m = c.self.inside.number in omega (arith, later m, no_later_than (m + 1) 240, after_last)
