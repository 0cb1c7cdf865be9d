use Rattle.std.proofs.Common.{◌≡◌, ℕ, ◌+◌, ◌-◌, length, Ok, Err, sym, refl, ap, ◌∙◌, arith}
use Rattle.refusals.specs.Conditions.{first_given}
use Rattle.std.proofs.lemmas.List.{set-get_or}
use Rattle.std.proofs.lemmas.Result.{MatchResult-at_err, MatchResult-at_ok, err_from_is_err_and}
use Rattle.batch.proofs.Order.{leaves}
use Rattle.batch.proofs.Running.{at_end, at_full, at_fault, one_more, located_err, located_ok}
use Rattle.records.specs.Records.{record_in}
use Rattle.batch.specs.Runs.{answer_to, faults}
use Rattle.batch.specs.declared.fault.BatchFault.TheVariants.{AtRecord}
use Rattle.batch.specs.declared.fault.Position.{Position}
use Rattle.batch.proofs.run.House.run_batch.Goals as goal

number_of : {position : Position} {number offset : ℕ} → position ≡ record { number = number; offset = offset } → position.number ≡ number
number_of is = ap (λ (p : Position). p.number) is

pub returns-then-is_empty : goal.returns-then-is_empty
returns-then-is_empty g c = leaves _ _ c.args.answers.now c.args.batch.now c.args.book.now.figures (at_end c.loop-count.invariant (sym c.is_empty.ensures ∙ c.if-is_empty.true)) refl (set-get_or _ _ _) refl

pub returns-in_err-answer : goal.returns-in_err-answer
returns-in_err-answer g c =
    let rest = c.loop-count.rest.now in
    let f = c.loop-count.book.figures in
    let more = sym c.is_empty.ensures ∙ c.if-is_empty.false in
    let here = c.position-here.ensures in
    let at = located_err c.position-here.result c.take_record.result (sym c.locate.ensures ∙ c.in_err-answer.was) in
    let fault = MatchResult-at_err _ _ _ at.1 c.take_record.ensures.fault in
    let p = err_from_is_err_and c.from_residual.result c.from_residual.ensures.1 in
    leaves _ _ c.args.answers.now c.args.batch.now c.args.book.now.figures
    (at_fault c.loop-count.invariant (omega arith) more (ap (λ n. first_given (faults n f rest)) (sym (number_of here)) ∙ fault))
    (p.1 ∙ ap Err (p.2 ∙ ap AtRecord (at.2 ∙ ap (λ position. record { position = position; fault = at.0 }) here)))
    (set-get_or _ _ _)
    (MatchResult-at_err _ _ _ at.1 c.take_record.ensures.after)

pub loop-count-preserved : goal.loop-count-preserved
loop-count-preserved g c =
    let rest = c.loop-count.rest.now in
    let f = c.loop-count.book.figures in
    let policy = g.R.RatingPolicy.coefficient c.args.self.now.rating.now in
    let more = sym c.is_empty.ensures ∙ c.if-is_empty.false in
    let number = number_of c.position-here.ensures in
    let ok = located_ok c.position-here.result c.take_record.result (sym c.locate.ensures ∙ c.in_ok-answer.was) in
    let taken = MatchResult-at_ok _ _ _ ok c.take_record.ensures.fault in
    one_more c.loop-count.invariant (omega arith) more (ap (λ n. first_given (faults n f rest)) (sym number) ∙ taken.0)
    (taken.1.0 ∙ ap (λ n. answer_to policy n f (record_in rest)) number)
    taken.1.1
    (MatchResult-at_ok _ _ _ ok c.take_record.ensures.after)

pub returns-in_err-locate : goal.returns-in_err-locate
returns-in_err-locate g c =
    let all : length c.loop-count.answers ≡ c.loop-count.count = omega (arith, c.loop-count.auto.count-end, c.loop-count-test.false) in
    let here = c.position-here-2.ensures ∙ ap (λ n. record { number = n + 1; offset = length c.args.batch.now - length c.loop-count.rest.now }) all in
    let at = located_err c.position-here-2.result c.no_more.result (sym c.locate-2.ensures ∙ c.in_err-locate.was) in
    let p = err_from_is_err_and c.from_residual-in_err-locate.result c.from_residual-in_err-locate.ensures.1 in
    let left = MatchResult-at_err _ _ _ at.1 c.no_more.ensures in
    leaves _ _ c.args.answers.now c.args.batch.now c.args.book.now.figures (at_full c.loop-count.invariant (omega arith) left.0)
    (p.1 ∙ ap Err (p.2 ∙ ap AtRecord (at.2 ∙ (λ i. record { position = here i; fault = left.1 i }))))
    refl
    refl

pub returns : goal.returns
returns g c =
    let all : c.loop-count.count ≡ length c.loop-count.answers = omega (arith, c.loop-count.auto.count-end, c.loop-count-test.false) in
    let ok = located_ok c.position-here-2.result c.no_more.result (sym c.locate-2.ensures ∙ c.in_ok-locate.was) in
    leaves _ _ c.args.answers.now c.args.batch.now c.args.book.now.figures (at_end c.loop-count.invariant (MatchResult-at_ok _ _ _ ok c.no_more.ensures)) (ap Ok (sym all))
    refl
    refl
