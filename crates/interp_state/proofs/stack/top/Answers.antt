use Rattle.std.proofs.Common.{rules, ◌≡◌, ◌-◌, length, get_or}
use Rattle.interp_state.proofs.Tops.{last_on_top}
use Rattle.interp_state.proofs.stack.top.Goals as goal

pub returns : goal.returns
returns c = last_on_top c.args.values.now.items c.index.result.now c.requires
    (let e : c.index.result.now ≡ get_or c.args.values.now.items (length c.args.values.now.items - 1) c.index.result.now = search rules in e)
