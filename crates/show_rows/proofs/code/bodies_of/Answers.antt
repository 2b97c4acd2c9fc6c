use Rattle.std.proofs.Common.{◌∙◌, inl}
use Rattle.show_places.specs.Sections.{part_of}
use Rattle.show_places.specs.Bodies.{bodies_in}
use Rattle.show_rows.proofs.Read.{bodies_read, bodies_refused}
use Rattle.show_rows.proofs.code.bodies_of.Goals as goal

pub returns-in-Ok : goal.returns-in-Ok
returns-in-Ok c = inl (
  part_of c.in-Some.code,
  c.in-Some.ensures,
  bodies_read c.in-Some.code.contents.now c.in-Ok.bodies c.in-Ok.ensures.0 (bodies_in c.in-Some.code.contents.now) c.in-Ok.ensures.1,
)

pub returns-in-Err-Malformed : goal.returns-in-Err-Malformed
returns-in-Err-Malformed c = inl (
  part_of c.in-Some.code,
  c.in-Some.ensures,
  bodies_refused c.in-Some.code.contents.now c.from_vec-in-Err-Malformed.result _ (bodies_in c.in-Some.code.contents.now)
      (rw (c.in-Err-Malformed.field-0-is) at c.in-Err-Malformed.ensures.1)
      (c.from_vec-in-Err-Malformed.ensures ∙ c.new-in-Err-Malformed.ensures.items),
)
