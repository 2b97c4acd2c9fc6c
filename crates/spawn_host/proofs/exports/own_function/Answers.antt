use Rattle.std.proofs.Common.{◌≡◌, Option, Some, None}
use Rattle.spawn_host.proofs.exports.own_function.Goals as goal

none_there : {A : Type 0} {o : Option A} {a : A} → o ≡ None → o ≡ Some a → ⊥
none_there none there = cc (none, there)

pub returns-in_err-own : goal.returns-in_err-own
returns-in_err-own c =
    rw c.from_residual.ensures (λ own x. none_there c.in_err-own.was ((c.exported.ensures own).1 x))

pub func_type-func_type-requires : goal.func_type-func_type-requires
func_type-func_type-requires c = ((c.exported.ensures c.in_ok-own.own).0 c.in_ok-own.was).function
