use Rattle.std.proofs.Common.{◌≡◌, ◌+◌, length, Some, sym, ap, ◌∙◌, subst, arith}
use Rattle.letters.proofs.Choosing.{Leads, first_found, first_of, passed_over, some_found, taken}
use Rattle.letters.proofs.table.choosing.first_usable.Goals as goal
use Rattle.letters.proofs.table.choosing.first_usable.Goals.{then-is_usable, else-is_usable}

pub loop-index-preserved : goal.loop-index-preserved
loop-index-preserved g c =
    let order = c.args.order.now in
    let before = g.O.DrawOrder.before order in
    let met = g.met.O.DrawOrder in
    let day = c.args.day in
    let rows = c.args.rows.now in
    let i = c.loop-index.index in
    let so_far = c.loop-index.first in
    elim c.if-is_usable.branch [
      | then-is_usable w ↦
          let is = w.first-is ∙ ap Some (w.or_before.ensures ∙ ap (λ known. first_of before day rows i known so_far) w.into.ensures) in
          subst (Leads before day rows (i + 1)) (sym is) (taken before day rows (met.one_first order) (met.carries order) i c.loop-index-test.true (sym c.is_usable.ensures ∙ w.if-is_usable.true) so_far c.loop-index.invariant)
      | else-is_usable w ↦ subst (Leads before day rows (i + 1)) (sym w.first-is) (passed_over before day rows i so_far (sym c.is_usable.ensures ∙ w.if-is_usable.false) c.loop-index.invariant)
    ]

pub returns : goal.returns
returns g c =
    let before = g.O.DrawOrder.before c.args.order.now in
    let rows = c.args.rows.now in
    let end : c.loop-index.index ≡ length rows = omega (arith, c.loop-index.auto.index-end, c.loop-index-test.false) in
    record {
      some = some_found before c.args.day rows c.loop-index.index end c.loop-index.first c.loop-index.invariant;
      first = first_found before c.args.day rows c.loop-index.index end c.loop-index.first c.loop-index.invariant;
    }
