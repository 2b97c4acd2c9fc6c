-- The one thread of a module of one atomic add, from its call to its end.
use Rattle.std.proofs.Common.{◌≡◌, ℕ, suc, ◌+◌, ◌%◌, ◌<◌, true, false, cond, inl, inr, List, [], ◌∷◌, Option, Some, refl, sym, ◌∙◌, ap, subst, arith}
use Rattle.std.proofs.lemmas.Bool.{cond-true, cond-false, cases_Bool}
use Rattle.std.specs.Prelude.{nat_eq}
use Rattle.types.specs.declared.value.ValType.TheVariants as types
use Rattle.types.specs.declared.value.Value.TheVariants as values
use Rattle.types.specs.declared.event.RmwOp.TheVariants as ops
use Rattle.types.specs.declared.event.Event.TheVariants as events
use Rattle.types.specs.declared.event.Entry.{Entry}
use Rattle.types.specs.declared.event.Reply.{Reply}
use Rattle.types.specs.declared.event.Reply.TheVariants as replies
use Rattle.types.specs.declared.operators.AccessWidth.TheVariants as access
use Rattle.types.specs.declared.operators.AtomicOp.TheVariants as atomic
use Rattle.types.specs.declared.instr.PlainInstr.TheVariants as plain
use Rattle.types.specs.declared.outcome.Trap.TheVariants as traps
use Rattle.types.specs.declared.outcome.Outcome.{Outcome}
use Rattle.types.specs.declared.outcome.Outcome.TheVariants as outcomes
use Rattle.types.specs.Nesting.{Code, Empty, Then}
use Rattle.shared_memory.specs.History.{memory_after}
use Rattle.shared_memory.specs.Legal.{IsMemoryLegal}
use Rattle.shared_memory.specs.Access.{HasReached}
use Rattle.schedule.specs.System.{Act.Made}
use Rattle.schedule.specs.Machine.{Thread.Runs}
use Rattle.interp_machine.specs.Program.{Program, program_of, function_of_body}
use Rattle.interp_machine.specs.Config.{Config, Next, Goes, Traps, Finishes, Asks}
use Rattle.interp_machine.specs.Step.{next, limited, with_rest}
use Rattle.interp_machine.specs.Access.{cut, answered_value}
use Rattle.interp_machine.specs.State.{State, At, start_in, replied_by}
use Rattle.schedule_threads.specs.Seeing.{entered}
use Rattle.report_first.specs.First.{first_type, first_body, first_parts, whole_word, page_with, is_aligned, page_after, first_outcome}
use Rattle.report_first.proofs.Machine.{RunsOn, goes, traps, asks, finishes, leaving, alone_more}
use Rattle.report_first.proofs.Page.{page, added, reply_of_add, state_after_add}

module _ (a v : ℕ) where
  abbrev pub program : Program
  program = program_of (first_parts a v)

  abbrev add : Code
  add = Then (plain.Atomic (atomic.Rmw ops.Add (access.Whole types.I32)) whole_word) Empty

  abbrev second : Code
  second = Then (plain.I32Const v) add

  -- before the first turn, behind each constant, and behind the add
  abbrev pub c0 : Config
  c0 = start_in first_type (function_of_body (first_body a v)) [] []

  abbrev c1 : Config
  c1 = with_rest c0 second (values.I32 a ∷ [])

  abbrev c2 : Config
  c2 = with_rest c1 add (values.I32 v ∷ values.I32 a ∷ [])

  abbrev c3 : ℕ → Config
  c3 old = with_rest c2 Empty (answered_value (access.Whole types.I32) old ∷ [])

  next_0 : next program c0 ≡ Goes c1
  next_0 = refl

  next_1 : next program c1 ≡ Goes c2
  next_1 = refl

  next_3 : next program (c3 0) ≡ Finishes (Some (values.I32 0))
  next_3 = refl

  abbrev asked : Next
  asked = Asks (events.Rmw ops.Add (a + 0) 4 (cut 4 v)) c3

  next_2 : next program c2 ≡ limited (cond (nat_eq ((a + 0) % 4) 0) asked (Traps traps.UnalignedAtomic))
  next_2 = refl

  no_offset : a + 0 ≡ a
  no_offset = omega arith

  address : nat_eq ((a + 0) % 4) 0 ≡ is_aligned a
  address = ap (λ n. nat_eq (n % 4) 0) no_offset

  next_aligned : v < 64 → is_aligned a ≡ true → next program c2 ≡ Asks (added a v) c3
  next_aligned small aligned =
      let fits : cut 4 v ≡ v = omega arith in
      next_2 ∙ (ap limited (cond-true (nat_eq ((a + 0) % 4) 0) asked (Traps traps.UnalignedAtomic) (address ∙ aligned))
      ∙ (ap (λ n. Asks (events.Rmw ops.Add n 4 (cut 4 v)) c3) no_offset ∙ ap (λ n. Asks (added a n) c3) fits))

  next_unaligned : is_aligned a ≡ false → next program c2 ≡ Traps traps.UnalignedAtomic
  next_unaligned unaligned =
      next_2 ∙ ap limited (cond-false (nat_eq ((a + 0) % 4) 0) asked (Traps traps.UnalignedAtomic) (address ∙ unaligned))

  -- How it ends, and what the memory is then.
  pub record EndsSo (outcome : Outcome) (H : List Entry) : Type 0 where
    pub outcome_is : outcome ≡ first_outcome a
    pub memory : memory_after page H ≡ record { bytes = page_after a v; max = 1 }

  module _ (below : a < 64) (small : v < 64) (start : ℕ → ℕ → State) (fuel : ℕ) (limit : Option ℕ) (outcome : Outcome) (left f : ℕ) (H : List Entry)
      (room : HasReached limit [] → ⊥) (legal : IsMemoryLegal page H) where
    abbrev On : State → ℕ → List Entry → Type 0
    On s n before = RunsOn program start fuel limit outcome left (Runs s n) before H

    to_c2 : On (At c0) (suc (suc (suc (suc f)))) [] → On (At c2) (suc (suc f)) []
    to_c2 on =
        goes program start fuel limit outcome left c1 (suc (suc f)) [] H
        (goes program start fuel limit outcome left c0 (suc (suc (suc f))) [] H on c1 next_0) c2 next_1

    unaligned_end : is_aligned a ≡ false → On (At c2) (suc (suc f)) [] → EndsSo outcome H
    unaligned_end unaligned on =
        let ended = leaving program start fuel limit outcome left (outcomes.Trap traps.UnalignedAtomic) (suc f) [] H
        (traps program start fuel limit outcome left c2 (suc f) [] H on traps.UnalignedAtomic (next_unaligned unaligned)) in
        record {
          outcome_is = ended.outcome_is ∙ sym (cond-false (is_aligned a) (outcomes.Done (Some (values.I32 0))) (outcomes.Trap traps.UnalignedAtomic) unaligned);
          memory = ap (memory_after page) ended.list
              ∙ sym (ap (λ bytes. record { bytes = bytes; max = 1 }) (cond-false (is_aligned a) (page_with a v) page.bytes unaligned));
        }

    abbrev entry_of : Reply → Entry
    entry_of reply = entered 0 (Made (added a v) reply)

    head_legal : (reply : Reply) (more : List Entry) → H ≡ entry_of reply ∷ more → reply ≡ replies.Value 0
    head_legal reply more is =
        let legal' : IsMemoryLegal page (entry_of reply ∷ more) = subst (IsMemoryLegal page) is legal in
        legal'.0 ∙ reply_of_add a v below

    aligned_end : is_aligned a ≡ true → On (At c2) (suc (suc f)) [] → EndsSo outcome H
    aligned_end aligned on =
        let made = asks program start fuel limit outcome left c2 (suc f) [] H on (added a v) c3 (next_aligned small aligned) room in
        let more = alone_more limit (entry_of made.reply ∷ []) H made.on.steps made.on.alone in
        let reply_is : made.reply ≡ replies.Value 0 = head_legal made.reply more.0 more.1 in
        let behind : On (At (c3 0)) (suc f) (entry_of made.reply ∷ []) =
        subst (λ r. On (replied_by c2 (Asks (added a v) c3) r) (suc f) (entry_of made.reply ∷ [])) reply_is made.on in
        let ended = leaving program start fuel limit outcome left (outcomes.Done (Some (values.I32 0))) f (entry_of made.reply ∷ []) H
        (finishes program start fuel limit outcome left (c3 0) f (entry_of made.reply ∷ []) H behind (Some (values.I32 0)) next_3) in
        record {
          outcome_is = ended.outcome_is ∙ sym (cond-true (is_aligned a) (outcomes.Done (Some (values.I32 0))) (outcomes.Trap traps.UnalignedAtomic) aligned);
          memory = ap (memory_after page) ended.list ∙ (state_after_add a v below small
              ∙ sym (ap (λ bytes. record { bytes = bytes; max = 1 }) (cond-true (is_aligned a) (page_with a v) page.bytes aligned)));
        }

    pub ends_so : On (At c0) (suc (suc (suc (suc f)))) [] → EndsSo outcome H
    ends_so on =
        elim (cases_Bool (is_aligned a)) [ inl aligned ↦ aligned_end aligned (to_c2 on) | inr unaligned ↦ unaligned_end unaligned (to_c2 on) ]
