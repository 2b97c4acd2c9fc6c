use Rattle.std.proofs.lemmas.Nat.{pow_below}
use Rattle.show_told.proofs.values.power.Goals as goal

pub pow-requires : goal.pow-requires
pow-requires c = pow_below c.args.exponent 64 c.requires
