use Rattle.std.proofs.Common.{rules}
use Rattle.letters.proofs.Rows.{finds_first}
use Rattle.letters.specs.Letters.{free}
use Rattle.letters.proofs.table.LetterTable.free_place.Goals as goal

pub returns : goal.returns
returns c = finds_first (free) c.args.self.now.rows (λ row b given. search rules) (search rules) c.first.result c.first.ensures
