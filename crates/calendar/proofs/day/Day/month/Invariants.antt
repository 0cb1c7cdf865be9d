use Rattle.std.proofs.Common.{◌≤◌}
use Rattle.calendar.specs.Calendar.{first_day_of}
use Rattle.calendar.proofs.day.Day.month.Given as goal

abbrev pub invariant-loop-month : goal.invariant-loop-month
invariant-loop-month l = first_day_of l.month ≤ l.self-inside.number
