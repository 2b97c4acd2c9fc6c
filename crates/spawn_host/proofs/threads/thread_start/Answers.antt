use Rattle.std.proofs.Common.{◌≡◌, ℕ, Some, refl, subst, arith, codes}
use Rattle.std.proofs.lemmas.Option.{slice_get_within}
use Rattle.validate_typing.specs.Validity.{IsThreaded}
use Rattle.types.specs.declared.parts.Parts.{Parts}
use Rattle.validate_module_rules.specs.Exported.{IsExported}
use Rattle.spawn_host.specs.Entries.{IsThreadStart}
use Rattle.spawn_host.proofs.Calling.{is_there}
use Rattle.spawn_host.proofs.threads.thread_start.Goals as goal

exported_start : (m : Parts) (t : IsThreaded m) → IsExported m (codes "wasi_thread_start") t.own
exported_start m t = record {
  place = t.place;
  entry = t.entry;
  exported = t.exported;
  named = t.name;
  desc = t.desc;
  function = slice_get_within m.functions t.own t.index t.function;
}

pub unreachable-requires : goal.unreachable-requires
unreachable-requires c =
    let m = c.args.valid.now.parts in
    let t = c.parts-parts.ensures.validated.valid.threads c.requires in
    c.in_default.not-Some t.own ((c.exported.ensures t.own).1 (exported_start m t))

pub returns-clause-within : goal.returns-clause-within
returns-clause-within c = ((c.in-Some.ensures c.in-Some.own).0 refl).function

pub returns-clause-start : goal.returns-clause-start
returns-clause-start c =
    let m = c.args.valid.now.parts in
    let t = c.parts-parts.ensures.validated.valid.threads c.requires in
    let x = exported_start m t in
    let same : Some c.in-Some.own ≡ Some t.own = (c.in-Some.ensures t.own).1 x in
    let own : t.own ≡ c.in-Some.own = cc same in
    let bodies = c.parts-parts.ensures.tested.bodies in
    let below = slice_get_within m.functions t.own t.index t.function in
    let body = is_there m.bodies t.own (omega (arith, bodies, below)) in
    let two = t.takes_two in
    let start : IsThreadStart m t.own two.0 body.0 = record {
      exports = record { exported = x; function = record { index = t.index; typed = t.function; type_is = two.1; body_is = body.1 } };
      params = two.2;
      results = two.3;
    } in
    (two.0, body.0, subst (λ (o : ℕ). IsThreadStart m o two.0 body.0) own start)
