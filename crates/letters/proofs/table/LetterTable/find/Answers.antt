use Rattle.std.proofs.Common.{rules}
use Rattle.letters.proofs.Rows.{finds_first}
use Rattle.letters.specs.Letters.{numbered}
use Rattle.letters.proofs.table.LetterTable.find.Goals as goal

pub returns : goal.returns
returns c = finds_first (numbered c.args.number) c.args.self.now.rows (λ row b given. search rules) (search rules) c.first.result c.first.ensures
