use Rattle.std.proofs.Common.{◌≡◌, ◌≤◌, true, Err, List, set, sym, ap, ◌∙◌, subst, rules}
use Rattle.letters.specs.Letters.{held_total, sound_row}
use Rattle.letters.specs.declared.letter.Letter.{Letter}
use Rattle.std.specs.List.{list_all}
use Rattle.ledger.proofs.Lodging.{rows_kept, held_kept}
use Rattle.ledger.proofs.Settling.{accepted, refused}
use Rattle.ledger.specs.Lodge.{lodge_conditions, lodged, new_letter, with_letters}
use Rattle.ledger.specs.Outcomes.{Outcome, Settled}
use Rattle.ledger.proofs.book.Book.lodge.Goals as goal

pub invariant_of-self : goal.invariant_of-self
invariant_of-self g c =
    let book = c.args.self.now in
    let rows = book.figures.letters.rows in
    let place = c.in_ok-new.new.place.index in
    let checked = c.in_ok-new.ensures.1 in
    let after : c.put.new.self.rows ≡ set rows place (new_letter c.args.terms) = c.put.ensures ∙ ap (set rows place) checked.1 in
    record {
      dated = book.dated;
      rows = subst (λ (rows : List Letter). list_all sound_row rows ≡ true) (sym after) (rows_kept rows place c.args.terms book.rows);
      held = subst (λ (rows : List Letter). held_total rows ≤ 3000000000) (sym after) (held_kept rows place c.args.terms checked.2);
    }

pub returns : goal.returns
returns g c =
    let f = c.args.self.now.figures in
    let checked = c.in_ok-new.ensures in
    accepted _ f _ checked.0 (ap (with_letters f) (c.put.ensures ∙ λ i. set f.letters.rows (checked.1.0 i) (checked.1.1 i)))

pub returns-in_err-new : goal.returns-in_err-new
returns-in_err-new g c =
    let f = c.args.self.now.figures in
    let conditions = lodge_conditions f c.args.party c.args.terms in
    let after = lodged f c.args.terms in
    let is : c.from_residual.result ≡ Err c.in_err-new.field-0.0 = search rules in
    subst (λ (o : Outcome). Settled conditions f after o f) (sym is) (refused conditions f after c.in_err-new.ensures)
