use Rattle.std.proofs.Common.{◌≡◌, ◌∙◌, ◌-◌, length, ap, sym, subst}
use Rattle.show_places.specs.Sections.{IsNamed}
use Rattle.show_places.proofs.Behind.{behind_name}
use Rattle.show_places.proofs.sections.name_of.Goals as goal

pub returns : goal.returns
returns c =
    let named : IsNamed c.args.contents.now c.in-Ok.name.now c.read_bytes.new.self.rest.now =
    rw (c.new-reader.ensures.bounds, c.new-reader.ensures.rest) at c.in-Ok.ensures.gives in
    let start : c.offset.result ≡ length c.args.contents.now - length c.read_bytes.new.self.rest.now =
    c.offset.ensures ∙ ap (λ b. b.end - length c.read_bytes.new.self.rest.now) (c.read_bytes.ensures.keeps ∙ c.new-reader.ensures.bounds) in
    subst (IsNamed c.args.contents.now c.in-Ok.name.now)
    (sym (behind_name c.args.contents.now c.in-Ok.name.now c.read_bytes.new.self.rest.now c.offset.result named start)) named
