use Rattle.std.proofs.Common.{sym, ◌∙◌}
use Rattle.allowed_races.proofs.Each.{each-more, bytes-not}
use Rattle.allowed_races.proofs.allowed.Allowed.has.Goals as goal

pub returns-then-not-has_byte : goal.returns-then-not-has_byte
returns-then-not-has_byte c =
    sym (bytes-not c.args.self.now c.args.addr c.args.width c.loop-behind.behind c.loop-behind-test.true
    (sym c.has_byte.ensures ∙ c.if-not-has_byte.true))

pub loop-behind-preserved : goal.loop-behind-preserved
loop-behind-preserved c =
    each-more c.args.self.now c.args.addr c.loop-behind.behind (sym c.has_byte.ensures ∙ c.if-not-has_byte.false) c.loop-behind.invariant
