use Rattle.std.proofs.Common.{ap₂, ◌∙◌}
use Rattle.interp_machine.specs.Access.{first_load, second_load}
use Rattle.interp_accesses.proofs.Loading.{load_ready, load_first, load_second}
use Rattle.interp_accesses.proofs.loads.load.Goals as goal

pub top_i32-requires : goal.top_i32-requires
top_i32-requires c = load_ready _ _ _ c.requires

pub returns-in-Fresh : goal.returns-in-Fresh
returns-in-Fresh c = λ w k v st.
    load_first w c.args.state.now k c.args.op c.args.arg c.top_i32.result _ st c.requires
    (_, c.top_i32.ensures.1) c.in-Fresh.is
    (c.low_load.ensures ∙ ap₂ first_load c.effective-addr.ensures c.bytes.ensures)

pub returns-in-Halfway : goal.returns-in-Halfway
returns-in-Halfway c = λ w k v st.
    load_second w c.args.state.now k c.args.op c.args.arg c.top_i32.result _ _ st c.requires
    (_, c.top_i32.ensures.1) c.in-Halfway.is
    (c.high_load.ensures ∙ ap₂ second_load c.effective-addr.ensures c.bytes-in-Halfway.ensures)
