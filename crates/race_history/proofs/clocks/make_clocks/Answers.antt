use Rattle.std.proofs.Common.{◌≡◌, ◌∙◌, ◌<◌, ◌+◌, ℕ, [], Some, None, length, get_or, set, refl, subst, sym, ap, arith}
use Rattle.std.specs.Global.{Vec}
use Rattle.std.specs.List.{All}
use Rattle.std.proofs.lemmas.List.{get_or_default, length-set}
use Rattle.std.proofs.lemmas.List.Elements.{All-push}
use Rattle.types.specs.declared.event.Entry.{Entry}
use Rattle.types.specs.declared.event.Event.TheVariants.{Size}
use Rattle.types.specs.declared.event.Reply.TheVariants.{Value}
use Rattle.race_history.specs.Places.{thread_at}
use Rattle.race_history.specs.Sources.{AreSources, last_of, rows, start_before}
use Rattle.race_history.specs.Clocks.{AreClocks, IsJoined}
use Rattle.race_history.proofs.Lists.{IsAt-get}
use Rattle.race_history.proofs.Places.{thread_is}
use Rattle.race_history.proofs.Clocked.{clock_next, rows_at, rows_length, sources_below}
use Rattle.race_history.proofs.Gathering.{previous_more, same_four, sources_next}
use Rattle.race_history.proofs.clocks.make_clocks.Goals as goal

pub joined-requires-clause-within : goal.joined-requires-clause-within
joined-requires-clause-within c =
    let log = c.args.log.now in
    let sites = c.args.sites.now in
    let opening = c.args.opening in
    let threads = c.args.threads in
    let place = c.loop-place.place in
    let first : Entry = record { thread = 0; event = Size; reply = Value 0 } in
    let e = get_or log place first in
    let within : place < length log = omega arith in
    let thread : thread_at log place ≡ e.thread = thread_is log sites opening place e (IsAt-get log place first within) in
    let below : e.thread < threads = c.requires.threads place first within in
    let old = c.loop-place.invariant in
    let previous = c.loop-place.previous.items in
    let starts = c.args.calls.now.starts.items in
    let wakers = c.args.calls.now.wakers.items in
    let writers = c.args.writers.now in
    let written : length writers ≡ length log = sym (rows_length writers) ∙ c.requires.writers.count in
    let wrote : place < length writers = omega arith in
    let reads : c.as_slice-reads.result.now ≡ get_or (rows writers) place [] =
    c.as_slice-reads.ensures.value ∙ (ap (λ (v : Vec ℕ). v.items) c.index-writers-place.is
    ∙ sym (rows_at writers place c.index-writers-place.result wrote)) in
    let last : get_or previous e.thread None ≡ last_of log (thread_at log place) place =
    old.previous e.thread below ∙ ap (λ n. last_of log n place) (sym thread) in
    let next = sources_next log sites opening place within (rows writers) c.requires.writers starts c.requires.calls.starts (rows wakers)
    c.requires.calls.wakers (get_or previous e.thread None) last in
    let count : length wakers ≡ length log = sym (rows_length wakers) ∙ c.requires.calls.wakers.count in
    let there : place < length wakers = omega arith in
    let woken : c.as_slice-wakers.result.now ≡ get_or (rows wakers) place [] =
    c.as_slice-wakers.ensures.value ∙ (ap (λ (v : Vec ℕ). v.items) c.index.ensures ∙ sym (rows_at wakers place c.index.result.now there)) in
    let before : c.index-in-loop-place.result.now ≡ get_or previous e.thread None =
    c.index-in-loop-place.ensures ∙ get_or_default previous e.thread c.index-in-loop-place.result.now None (omega (arith, old.long, below)) in
    let start : c.start_before-start.result ≡ start_before starts (thread_at log place) place =
    c.start_before-start.ensures ∙ (ap (λ l. start_before l e.thread place) c.as_slice.ensures.value
    ∙ ap (λ n. start_before starts n place) (sym thread)) in
    let gathered = c.in_ok-gather.ensures ∙ same_four _ _ _ _ _ _ _ _ woken start reads before in
    let sources = subst (AreSources log sites opening place) (sym (c.as_slice-in-loop-place-2.ensures.value ∙ gathered)) next in
    let under = sources_below log sites opening place c.as_slice-in-loop-place-2.result.now sources in
    let long : length c.as_slice-in-loop-place.result.now ≡ place =
    ap (λ l. length l) c.as_slice-in-loop-place.ensures.value ∙ (sym (rows_length c.loop-place.clocks.items) ∙ old.clocks.count) in
    λ k d lt. let less = under k d lt in omega arith

pub loop-place-preserved : goal.loop-place-preserved
loop-place-preserved c =
    let log = c.args.log.now in
    let sites = c.args.sites.now in
    let opening = c.args.opening in
    let threads = c.args.threads in
    let place = c.loop-place.place in
    let first : Entry = record { thread = 0; event = Size; reply = Value 0 } in
    let e = get_or log place first in
    let within : place < length log = omega arith in
    let thread : thread_at log place ≡ e.thread = thread_is log sites opening place e (IsAt-get log place first within) in
    let below : e.thread < threads = c.requires.threads place first within in
    let old = c.loop-place.invariant in
    let previous = c.loop-place.previous.items in
    let starts = c.args.calls.now.starts.items in
    let wakers = c.args.calls.now.wakers.items in
    let writers = c.args.writers.now in
    let written : length writers ≡ length log = sym (rows_length writers) ∙ c.requires.writers.count in
    let wrote : place < length writers = omega arith in
    let reads : c.as_slice-reads.result.now ≡ get_or (rows writers) place [] =
    c.as_slice-reads.ensures.value ∙ (ap (λ (v : Vec ℕ). v.items) c.index-writers-place.is
    ∙ sym (rows_at writers place c.index-writers-place.result wrote)) in
    let last : get_or previous e.thread None ≡ last_of log (thread_at log place) place =
    old.previous e.thread below ∙ ap (λ n. last_of log n place) (sym thread) in
    let next = sources_next log sites opening place within (rows writers) c.requires.writers starts c.requires.calls.starts (rows wakers)
    c.requires.calls.wakers (get_or previous e.thread None) last in
    let count : length wakers ≡ length log = sym (rows_length wakers) ∙ c.requires.calls.wakers.count in
    let there : place < length wakers = omega arith in
    let woken : c.as_slice-wakers.result.now ≡ get_or (rows wakers) place [] =
    c.as_slice-wakers.ensures.value ∙ (ap (λ (v : Vec ℕ). v.items) c.index.ensures ∙ sym (rows_at wakers place c.index.result.now there)) in
    let before : c.index-in-loop-place.result.now ≡ get_or previous e.thread None =
    c.index-in-loop-place.ensures ∙ get_or_default previous e.thread c.index-in-loop-place.result.now None (omega (arith, old.long, below)) in
    let start : c.start_before-start.result ≡ start_before starts (thread_at log place) place =
    c.start_before-start.ensures ∙ (ap (λ l. start_before l e.thread place) c.as_slice.ensures.value
    ∙ ap (λ n. start_before starts n place) (sym thread)) in
    let gathered = c.in_ok-gather.ensures ∙ same_four _ _ _ _ _ _ _ _ woken start reads before in
    let sources = subst (AreSources log sites opening place) (sym (c.as_slice-in-loop-place-2.ensures.value ∙ gathered)) next in
    let row = c.in_ok-row.row.items in
    let clocks = c.loop-place.clocks.items in
    let joined = subst (λ l. IsJoined (rows l) c.as_slice-in-loop-place-2.result.now row) c.as_slice-in-loop-place.ensures.value
    c.in_ok-row.ensures.joined in
    record {
      long = length-set previous e.thread (Some place) ∙ old.long;
      previous =
          subst (λ (t : ℕ). (n : ℕ) → n < threads → get_or (set previous t (Some place)) n None ≡ last_of log n (place + 1)) thread
          (previous_more log place threads previous old.long old.previous);
      wide =
          subst (All (λ (v : Vec ℕ). length v.items ≡ threads)) (sym c.in_ok-push.ensures.items)
          (All-push (λ (v : Vec ℕ). length v.items ≡ threads) clocks _ old.wide (length-set row _ _ ∙ c.in_ok-row.ensures.wide));
      clocks =
          subst (λ l. AreClocks log sites opening threads (place + 1) (rows l)) (sym c.in_ok-push.ensures.items)
          (clock_next log sites opening threads place clocks c.as_slice-in-loop-place-2.result.now row first old.clocks sources joined
          c.in_ok-row.ensures.wide within c.requires.threads _ refl);
    }
