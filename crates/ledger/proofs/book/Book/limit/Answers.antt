use Rattle.std.proofs.Common.{◌*◌, ◌≤◌, pos, ◌*ℤ◌, ap, ◌∙◌, arith, w8, rules}
use Rattle.std.proofs.lemmas.Int.{ints, to_z-of_z}
use Rattle.ledger.proofs.Limits.{held_on_small}
use Rattle.ledger.proofs.book.Book.limit.Given as given
use Rattle.ledger.proofs.book.Book.limit.Goals as goal

held : (g : given.Over) (c : goal.After-held_on g) → c.held_on.result ≤ 3000000000
held g c = omega (arith, c.held_on.ensures, held_on_small c.args.self.now.figures.today c.args.self.now.figures.letters.rows)

pub overflow_cast-result : goal.overflow_cast-result
overflow_cast-result g c = record { sfits = omega (arith, held g c) }

pub overflow_add-result : goal.overflow_add-result
overflow_add-result g c =
    let h = held g c in
    let s = c.credit_part-credit.ensures.small in
    search (rules, ints)

pub returns : goal.returns
returns g c =
    let h = held g c in
    let credit = c.credit_part-credit.ensures in
    let rated = to_z-of_z w8 c.rate.result (record { sfits = c.rate.type_inv }) ∙ c.rate.ensures in
    let is = credit.value ∙ ap (λ z. pos (8 * c.args.self.now.figures.usage) *ℤ z) rated in
    omega (arith, ints, is, credit.small, c.held_on.ensures)
