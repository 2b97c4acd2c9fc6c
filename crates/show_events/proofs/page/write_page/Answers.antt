use Rattle.std.proofs.Common.{◌≡◌, ◌++◌, ◌∙◌, ◌<◌, ℕ, List, length, All, ap, subst, sym}
use Rattle.show_events.specs.Around.{around, failure}
use Rattle.show_events.proofs.Parted.{all_around}
use Rattle.show_events.proofs.Parts.{events_text, page_text}
use Rattle.show_events.proofs.Said.{page_of}
use Rattle.show_events.proofs.page.write_page.Goals as goal

pub returns-clause-data : goal.returns-clause-data
returns-clause-data g c =
    let run = events_text _ _ _ c.in_ok-write_run.ensures.lines.1 in
    let events = events_text _ _ _ c.in_ok-write_events.ensures.lines.2 in (
      c.as_bytes.result.now ++ c.as_bytes-2.result.now,
      run.0,
      events.0,
      c.as_bytes-3.result.now,
      run.1,
      events.1,
      page_text _ _ _ _ _ _ _ _ _ _ _ _ _ _ _ _ _ _ c.in_ok-write_all.ensures.bytes c.in_ok-write_all-2.ensures.bytes
          c.in_ok-write_all-3.ensures.bytes run.2 c.in_ok-write_all-4.ensures.bytes events.2 c.in_ok-write_all-5.ensures.bytes
          c.in_ok-write_all-6.ensures.bytes c.in_ok-flush.ensures.bytes,
    )

-- Each of the places that are written is one of the log.
pub write_events-requires : goal.write_events-requires
write_events-requires g c =
    let within : ℕ → Type 0 = λ at. at < length c.args.shown.record.now.log in
    subst (λ (ps : List ℕ). All within ps) (sym c.around-places.ensures)
    (all_around within c.failure_of.result c.deref.result.now
    (subst (λ (ps : List ℕ). All within ps) (sym c.deref.ensures.value) c.in_ok-chosen.ensures.within))

pub returns-clause-which : goal.returns-clause-which
returns-clause-which g c =
    page_of c.args.shown c.args.races.now c.args.moments.now c.args.look.now c.len.result c.around-places.result.now
    c.as_bytes.result.now c.as_bytes-2.result.now c.as_bytes-3.result.now _ _ _ _ _ _ _ _ _ _
    (c.len.ensures ∙ (c.in_ok-chosen.chosen.ok.0 ∙ ap (λ (ps : List ℕ). length ps) c.in_ok-chosen.ensures.which))
    (c.around-places.ensures ∙ (ap (λ (at : ℕ). around at c.deref.result.now) c.failure_of.ensures
    ∙ ap (λ (ps : List ℕ). around (failure c.args.shown.record.now) ps) (c.deref.ensures.value ∙ c.in_ok-chosen.ensures.which)))
    c.in_ok-write_all.ensures.bytes c.in_ok-write_all-2.ensures.bytes c.in_ok-write_all-3.ensures.bytes
    c.in_ok-write_run.ensures.which c.in_ok-write_all-4.ensures.bytes c.in_ok-write_events.ensures.which
    c.in_ok-write_all-5.ensures.bytes c.in_ok-write_all-6.ensures.bytes c.in_ok-flush.ensures.bytes
