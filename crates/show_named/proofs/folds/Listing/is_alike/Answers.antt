use Rattle.std.proofs.Common.{◌≡◌, ◌∙◌, List, Some, length, refl, sym, ap, subst}
use Rattle.std.specs.List.{slice_get}
use Rattle.std.proofs.lemmas.Option.{slice_get_read}
use Rattle.types.specs.declared.event.Entry.{Entry}
use Rattle.show_named.proofs.Folded.{alike}
use Rattle.show_named.proofs.folds.Listing.is_alike.Goals as goal

pub returns-then-is_same_entry : goal.returns-then-is_same_entry
returns-then-is_same_entry c told =
    let s = c.args.self.now in
    let log = c.as_slice-log.result.now in
    let both = c.in-Some-Some in
    let one = slice_get_read log (length log) c.args.a both.one.now refl both.ensures.lookup.3.0 both.ensures.lookup.1 in
    let other = slice_get_read log (length log) c.args.b both.other.now refl both.ensures'.lookup.3.0 both.ensures'.lookup.1 in
    alike s.shown s.map.now s.story.now c.args.a c.args.b
    (subst (λ (l : List Entry). slice_get l c.args.a ≡ slice_get l c.args.b) c.as_slice-log.ensures
    (one ∙ ap (λ (e : Entry). Some e) (c.if-is_same_entry.ensures refl) ∙ sym other)) (c.is_told_alike.ensures told)
