use Rattle.std.proofs.Common.{refl, rules}
use Rattle.spawn_host.specs.Entries.{Takes}
use Rattle.spawn_host.proofs.request.Request.new.Goals as goal

pub invariant_of-result : goal.invariant_of-result
invariant_of-result c =
    let found = c.in-Some.ensures in
    let takes : Takes c.args.module.now.parts c.args.call.name.now c.args.call.args.now = record {
      own = c.in-Some.function.own;
      func_type = c.in-Some.function.func_type.now;
      body = found.0;
      exports = found.1;
      fit = search rules;
    } in
    (takes, refl)

pub returns-clause-takes : goal.returns-clause-takes
returns-clause-takes c =
    let found = c.in-Some.ensures in record {
      own = c.in-Some.function.own;
      func_type = c.in-Some.function.func_type.now;
      body = found.0;
      exports = found.1;
      fit = search rules;
    }
