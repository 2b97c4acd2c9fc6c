use Rattle.std.proofs.Common.{◌≡◌, refl, sym, ◌∙◌, subst}
use Rattle.std.proofs.lemmas.List.{get_or_default}
use Rattle.search_finds.specs.declared.met.Met.{Met}
use Rattle.search_finds.proofs.met.EndingTable.note.Goals as goal

pub returns-in-Some-clause-noted : goal.returns-in-Some-clause-noted
returns-in-Some-clause-noted c =
    let items = c.args.self.now.met.items in
    let was = c.index_mut.result.now in
    let p = c.in-Some.ensures in
    record {
      runs = refl;
      met = record {
        place = c.in-Some.place;
        within = p.0;
        was = was;
        was_there = sym c.index_mut.ensures.value;
        same = subst (λ (m : Met). m.ending ≡ c.args.ending)
            (sym (c.index_mut.ensures.value ∙ get_or_default items c.in-Some.place was p.1 p.0 ∙ p.2)) p.3;
        list = refl;
      };
    }
