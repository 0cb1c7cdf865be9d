use Rattle.rating.proofs.guangxi.GuangxiTableRatingPolicy.TheImpl.Goals as goal

pub rate-tells : goal.rate-tells
rate-tells c = c.ensures.marked_or_not c.args.arrears
