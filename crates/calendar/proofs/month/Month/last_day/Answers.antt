use Rattle.std.proofs.Common.{◌+◌, arith}
use Rattle.calendar.proofs.Starts.{later, no_later_than, after_last}
use Rattle.calendar.proofs.month.Month.last_day.Goals as goal

pub overflow_sub-result : goal.overflow_sub-result
overflow_sub-result c = omega (arith, later c.self.inside.number)

pub invariant_of-result : goal.invariant_of-result
invariant_of-result c = omega (arith, no_later_than (c.self.inside.number + 1) 240, after_last)
