use Rattle.std.proofs.Common.{rules}
use Rattle.calendar.proofs.Starts.{counted_is}
use Rattle.calendar.proofs.month.start.Goals as goal

pub returns : goal.returns
returns c = search (rules, counted_is c.args.month c.requires)
