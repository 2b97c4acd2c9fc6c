use Rattle.std.proofs.Common.{length, refl, sym, ◌∙◌, ap, arith}
use Rattle.std.specs.List.{slice_get}
use Rattle.types.specs.declared.parts.Parts.{Parts}
use Rattle.interp.proofs.Resumed.{stands_again}
use Rattle.std.proofs.lemmas.Option.{slice_get_within}
use Rattle.interp.proofs.thread.Thread.resume.Goals as goal

pub code_of-code-requires-clause-body : goal.code_of-code-requires-clause-body
code_of-code-requires-clause-body c =
    let k = c.requires.1 in rw c.in_ok-program.ensures.parts (rw k.is_of.function (slice_get_within _ _ _ k.stands.own.body_is))

pub code_of-code-requires-clause-table : goal.code_of-code-requires-clause-table
code_of-code-requires-clause-table c =
    let k = c.requires.1 in rw c.in_ok-program.ensures.tables (rw k.is_of.function (slice_get_within _ _ _ k.stands.own.rows_are))

pub returns-clause-resumed : goal.returns-clause-resumed
returns-clause-resumed c =
    let w = c.args.valid.now in
    let k = c.args.kept.now in
    let of_module = c.parts.ensures in
    record {
      runs_by = record { parts = of_module.parts; tables = c.in_ok-program.ensures.tables };
      running = refl;
      budget = refl;
      stands = λ x kept. (
        refl,
        (
          refl,
          (
            w,
            sym of_module.parts,
            of_module.validated,
            rw of_module.parts of_module.tested.bodies,
            stands_again w k x kept.state _ kept.stands kept.is_of
                (record {
                  function = refl;
                  pc = refl;
                  base = refl;
                  operands = refl;
                  results = refl;
                  values = sym (c.in_ok-values.ensures.items ∙ c.as_slice.ensures.value);
                  globals = sym (c.in_ok-globals.ensures.items ∙ c.as_slice-3.ensures.value);
                  callers = sym (c.in_ok-callers.ensures.items ∙ c.as_slice-2.ensures.value);
                  progress = refl;
                }) c.in_ok-program.ensures
                (record {
                  code = λ body is. c.code_of-code.ensures.code body (ap (λ (y : Parts). slice_get y.bodies k.function) c.in_ok-program.ensures.parts ∙ is);
                  table = λ rows are. c.code_of-code.ensures.table rows (ap (λ x. slice_get x k.function) c.in_ok-program.ensures.tables ∙ are);
                }),
          ),
        ),
      );
    }

pub returns-clause-room : goal.returns-clause-room
returns-clause-room c =
    let k = c.requires.1 in
    let values = c.in_ok-values.ensures.room in
    let callers = c.in_ok-callers.ensures.room in
    let many = ap length (c.as_slice.ensures.value ∙ k.is_of.values) in
    let deep = ap length (c.as_slice-2.ensures.value ∙ k.is_of.callers) in
    let room = k.stands.room in
    let few = k.stands.few in
    record { values = omega arith; callers = omega arith }
