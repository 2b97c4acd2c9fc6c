use Rattle.std.proofs.Common.{◌≡◌, ◌++◌, replicate, vec_capacity}
use Rattle.interp_state.proofs.stack.push_zeros.Given as goal

abbrev pub invariant-loop : goal.invariant-loop
invariant-loop l =
    record {
      items : l.values.items ≡ l.initial.values.items ++ replicate l.counter 0;
      capacity : vec_capacity l.values ≡ vec_capacity l.initial.values;
    }
