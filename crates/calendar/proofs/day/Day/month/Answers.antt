use Rattle.std.proofs.Common.{◌≡◌, ◌/◌, ap, arith}
use Rattle.calendar.proofs.Starts.{after_last, alone, at_most_31_each, month_is}
use Rattle.calendar.specs.Calendar.{first_day_of, InMonth}
use Rattle.calendar.proofs.day.Day.month.Goals as goal

pub loop-month-init : goal.loop-month-init
loop-month-init c = omega (arith, at_most_31_each (c.self.inside.number / 31))

pub returns-then-self-start : goal.returns-then-self-start
returns-then-self-start c =
    let here : InMonth c.args.self c.loop-month.month = omega (arith, c.self.view_is) in
    record { value = month_is _ _ here; encloses = here; alone = λ m there. alone _ m _ there here }

pub returns : goal.returns
returns c =
    let last : c.loop-month.month ≡ 239 = omega (arith, c.self.view_is) in
    let here : InMonth c.args.self 239 = omega (arith, ap first_day_of last, after_last, c.self.view_is) in
    record { value = month_is _ _ here; encloses = here; alone = λ m there. alone _ m _ there here }
