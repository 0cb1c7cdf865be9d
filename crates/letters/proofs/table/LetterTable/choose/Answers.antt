use Rattle.letters.proofs.Choosing.{found_first, none_goes_first, only}
use Rattle.letters.specs.Letters.{no_letter}
use Rattle.std.proofs.lemmas.List.Folds.{list_any_at}
use Rattle.letters.specs.Choosing.{usable}
use Rattle.letters.proofs.table.LetterTable.choose.Goals as goal

pub returns : goal.returns
returns g c =
    let order = c.args.order.now in
    let before = g.O.DrawOrder.before order in
    let one_first = g.met.O.DrawOrder.one_first order in
    let day = c.args.day in
    let rows = c.args.self.now.rows in
    let found = c.in_ok-first.ensures in
    let place = c.in_ok-first.first.index in
    record {
      some = list_any_at (usable day) rows place no_letter found.some.0 found.some.1;
      first = λ distinct. found_first before one_first day rows distinct place (found.first distinct);
      only = λ distinct. only before one_first day rows distinct place (found.first distinct);
    }

pub returns-in_err-first : goal.returns-in_err-first
returns-in_err-first g c =
    let before = g.O.DrawOrder.before c.args.order.now in
    let rows = c.args.self.now.rows in
    let none = c.in_err-first.ensures.some in
    rw c.from_residual.ensures (record { some = none; first = λ distinct. none_goes_first before c.args.day rows rows none; only = λ distinct. tt })
