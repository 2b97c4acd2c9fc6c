use Rattle.std.proofs.Common.{◌-◌, ◌∙◌, get_or, refl, arith}
use Rattle.show_named.proofs.Folded.{rounds_written}
use Rattle.show_named.proofs.folds.Listing.write_rounds.Goals as goal

pub returns : goal.returns
returns g c =
    let s = c.args.self.now in
    let last = c.args.rounds.length - 1 in
    rounds_written s.shown s.map.now s.story.now c.args.places.now c.args.rounds last 0 (get_or c.args.places.now last 0) _ _ _ _
    c.requires.rounds (omega (arith, c.requires.rounds.some)) refl (c.as_str.ensures.value ∙ c.in_ok-often.ensures.ok)
    c.in_ok-write_entries.ensures c.in_ok-write_noted.ensures
