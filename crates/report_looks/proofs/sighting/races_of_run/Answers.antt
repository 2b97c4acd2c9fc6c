use Rattle.std.proofs.Common.{◌∙◌, refl, sym}
use Rattle.report_looks.proofs.Sightings.{empty_by, none_by, races_by, some_by}
use Rattle.report_looks.proofs.sighting.races_of_run.Goals as goal

pub returns-then-is_empty-clause-none : goal.returns-then-is_empty-clause-none
returns-then-is_empty-clause-none c =
    let m = c.args.module.now.parts in
    let pairs = c.as_slice-2.result.now in
    none_by m c.args.record.now c.in-Ok.rows.items c.in-Ok.ensures.run
    (record { «record» = c.parts-2.result; rows = c.as_slice.result; code = _ }) c.parts-2.ensures.parts c.as_slice.ensures.value
    (c.in_ok-known.ensures.parts ∙ c.parts.ensures.parts) c.args.allowed c.in_ok-told.told c.in_ok-told.ensures
    (empty_by pairs c.in_ok-told.told.races.pairs.items c.as_slice-2.ensures.value (sym c.if-is_empty.true ∙ c.is_empty.ensures))

pub returns-clause-race : goal.returns-clause-race
returns-clause-race c =
    let m = c.args.module.now.parts in
    let pairs = c.as_slice-2.result.now in
    let parts = c.in_ok-known.ensures.parts ∙ c.parts.ensures.parts in
    races_by m c.args.record.now c.in-Ok.rows.items c.in-Ok.ensures.run
    (record { «record» = c.parts-2.result; rows = c.as_slice.result; code = _ }) c.parts-2.ensures.parts c.as_slice.ensures.value parts
    (record {
      rows = c.in-Ok.rows;
      code = c.in_ok-code.code;
      map = c.in_ok-map.map;
      allowed = c.args.allowed;
      told = c.in_ok-told.told;
      stacks = c.in_ok-stacks.stacks;
    }) refl (c.in_ok-code.ensures ∙ parts) c.in_ok-told.ensures c.in_ok-stacks.ensures
    (some_by pairs c.in_ok-told.told.races.pairs.items c.as_slice-2.ensures.value (sym c.if-is_empty.false ∙ c.is_empty.ensures))
