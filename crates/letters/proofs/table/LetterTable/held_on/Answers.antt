use Rattle.std.proofs.Common.{◌≡◌, cond, sum_by, sym, ◌∙◌, rules}
use Rattle.tables.proofs.Kept.{total_of_some}
use Rattle.letters.specs.Letters.{includes}
use Rattle.letters.specs.declared.letter.Letter.{Letter}
use Rattle.letters.proofs.table.LetterTable.held_on.Goals as goal

pub returns : goal.returns
returns c =
    let rows = c.args.self.now.rows in
    let is : c.sum.result ≡ sum_by (λ row. cond (includes c.args.day row) row.held 0) rows = search rules in
    is ∙ sym (total_of_some (λ (row : Letter). row.held) (includes c.args.day) rows)
