use Rattle.std.proofs.Common.{◌∙◌, inl, inr}
use Rattle.show_places.specs.Sections.{part_of}
use Rattle.show_places.proofs.FirstNames.{without_section, without_subsection, without_vector}
use Rattle.show_places.proofs.names.read_names.Goals as goal

pub returns-in_default : goal.returns-in_default
returns-in_default c = inr (c.from_vec-none.ensures ∙ c.new.ensures.items, without_section c.args.bytes.now c.in_default.ensures.none)

pub returns-in_default-subsection_of : goal.returns-in_default-subsection_of
returns-in_default-subsection_of c =
    inr (
      c.from_vec-none.ensures ∙ c.new.ensures.items,
      without_subsection c.args.bytes.now c.in-Some.section.now c.in-Some.ensures.some c.in_default-subsection_of.ensures,
    )

pub returns-in-Ok : goal.returns-in-Ok
returns-in-Ok c = inl (record {
  text = c.in-Some.section.now;
  functions = part_of c.in-Some-subsection_of.functions;
  rest = c.read_vector.new.reader.rest.now;
  custom = c.in-Some.ensures.some;
  subsection = c.in-Some-subsection_of.ensures;
  vector = rw (c.new-reader.ensures.bounds, c.new-reader.ensures.rest) at c.in-Ok.ensures.gives;
})

pub returns-in-Err-Malformed : goal.returns-in-Err-Malformed
returns-in-Err-Malformed c =
    inr (
      c.from_vec-none.ensures ∙ c.new.ensures.items,
      without_vector c.args.bytes.now c.in-Some.section.now (part_of c.in-Some-subsection_of.functions) _ c.in-Some.ensures.some
          c.in-Some-subsection_of.ensures (rw (c.new-reader.ensures.bounds, c.new-reader.ensures.rest, c.in-Err-Malformed.field-0-is) at
          c.in-Err-Malformed.ensures.gives),
    )
