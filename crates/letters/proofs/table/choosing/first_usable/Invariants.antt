use Rattle.letters.proofs.Choosing.{Leads}
use Rattle.letters.proofs.table.choosing.first_usable.Given as goal

abbrev pub invariant-loop-index : goal.invariant-loop-index
invariant-loop-index g l = Leads (g.O.DrawOrder.before l.order) l.day l.rows l.index l.first
