use Rattle.std.proofs.Common.{rules, ◌-◌, ◌<◌, ◌^◌, length, get_or}
use Rattle.interp_accesses.proofs.Storing.{second_narrow}
use Rattle.interp_accesses.proofs.operands.top_two.Goals as goal

pub overflow_cast-result : goal.overflow_cast-result
overflow_cast-result c =
    let narrow : get_or c.args.values.now (length c.args.values.now - 2) 0 < 2 ^ 32 =
    second_narrow c.args.values.now c.requires.0 c.requires.1 c.in-len2-up.len_at_least in
    search rules
