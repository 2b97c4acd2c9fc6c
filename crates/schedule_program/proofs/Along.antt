-- One mark after the other, along a schedule.
use Rattle.std.proofs.Common.{◌≡◌, ℕ, ◌+◌, ◌<◌, List, [], ◌∷◌, ◌++◌, length, map, take, get_or, Option, sym, ◌∙◌, ap, append_assoc, append-nil}
use Rattle.std.specs.Prelude.{option_to_list}
use Rattle.std.proofs.lemmas.List.{map-append, take_more}
use Rattle.types.specs.declared.event.Entry.{Entry}
use Rattle.types.specs.declared.event.Event.{Event}
use Rattle.types.specs.declared.event.Reply.{Reply}
use Rattle.types.specs.declared.event.Answer.{Answer}
use Rattle.schedule.specs.System.{State}
use Rattle.schedule.specs.System as systems
use Rattle.schedule.specs.Scheduled.{after_mark, entries_at, entries_made, scheduled_run}
use Rattle.schedule.proofs.Basics.{entries_made-append, scheduled_run-append}
use Rattle.schedule_threads.specs.Shared.{Shared}
use Rattle.interp_trait.specs.Turns.{Running}
use Rattle.schedule_machine.specs.Threads.{Setting}
use Rattle.schedule_machine.specs.Runs.{system_by}
use Rattle.schedule_program.specs.Runs.{as_entries, entry_of, kind_of, mark_of}
use Rattle.schedule_program.specs.declared.mark.Mark.{Mark}

marks_more : (xs : List Mark) (i : ℕ) (d : Mark) → i < length xs → map mark_of (take (i + 1) xs) ≡ map mark_of (take i xs) ++ mark_of (get_or xs i d) ∷ []
marks_more xs i d within = ap (λ ys. map mark_of ys) (take_more xs i d within) ∙ map-append mark_of (take i xs) (get_or xs i d ∷ [])

module _ (s : Setting) (w : State Shared Running) (xs : List Mark) (i : ℕ) (d : Mark) (within : i < length xs) where
  abbrev so_far : List systems.Mark
  so_far = map mark_of (take i xs)

  abbrev mark : Mark
  mark = get_or xs i d

  pub run_more : scheduled_run (system_by s) w (map mark_of (take (i + 1) xs)) ≡ after_mark (system_by s)
      (scheduled_run (system_by s) w so_far) mark.thread (kind_of mark.kind)
  run_more = ap (λ S. scheduled_run (system_by s) w S) (marks_more xs i d within) ∙ scheduled_run-append (system_by s) w so_far (mark_of mark ∷ [])

  abbrev at_mark : List (systems.Entry Event Reply Answer)
  at_mark = entries_at (system_by s) (scheduled_run (system_by s) w so_far) mark.thread (kind_of mark.kind)

  made_more : as_entries (entries_made (system_by s) w (map mark_of (take (i + 1) xs))) ≡ as_entries (entries_made (system_by s) w so_far) ++ as_entries at_mark
  made_more =
      ap (λ S. as_entries (entries_made (system_by s) w S)) (marks_more xs i d within)
      ∙ (ap as_entries (entries_made-append (system_by s) w so_far (mark_of mark ∷ []))
      ∙ (map-append entry_of (entries_made (system_by s) w so_far) (at_mark ++ [])
      ∙ ap (λ made. as_entries (entries_made (system_by s) w so_far) ++ as_entries made) (append-nil at_mark)))

  pub entries_more : (o : Option Entry) (old new first : List Entry) → new ≡ old ++ option_to_list o
      → old ≡ first ++ as_entries (entries_made (system_by s) w so_far)
      → option_to_list o ≡ as_entries at_mark
      → new ≡ first ++ as_entries (entries_made (system_by s) w (map mark_of (take (i + 1) xs)))
  entries_more o old new first pushed before made =
      pushed ∙ (ap (λ ys. ys ++ option_to_list o) before
      ∙ (ap (λ ys. (first ++ as_entries (entries_made (system_by s) w so_far)) ++ ys) made
      ∙ (append_assoc first (as_entries (entries_made (system_by s) w so_far)) (as_entries at_mark) ∙ ap (λ ys. first ++ ys) (sym made_more))))
