use Rattle.show_places.proofs.bodies.code_places.Goals as goal

pub returns : goal.returns
returns c = (c.read_vector.new.reader.rest.now, rw (c.new-reader.ensures.bounds, c.new-reader.ensures.rest) at c.read_vector.ensures.gives)
