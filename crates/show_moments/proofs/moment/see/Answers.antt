use Rattle.std.proofs.Common.{refl}
use Rattle.show_moments.proofs.moment.see.Goals as goal

pub returns-in_ok-standing : goal.returns-in_ok-standing
returns-in_ok-standing c = record {
  first = λ free. (c.in_ok-standing.standing, c.in_ok-standing.ensures, c.put.ensures);
  later = λ taken. absurd (taken (c.if-is_free.ensures.0 refl));
}
