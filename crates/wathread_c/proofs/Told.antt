-- What is told, and what follows from it.
use Rattle.std.proofs.Common.{ℕ, ◌≡◌, ◌∙◌, ◌⊎◌, List, [], ◌∷◌, length, sym, ap, subst, inl, inr, refl, Ok, Err, IfOk, Option, Some, None}
use Rattle.std.proofs.Common.{drop, arith, length-append, length-drop}
use Rattle.std.proofs.lemmas.Bool.{cases_lt}
use Rattle.std.specs.Prelude.{unwrap_or, ◌==◌, ◌||◌, nat_le, Bool, if◌then◌else◌}
use Rattle.std.specs.declared.result.Result.{Result}
use Rattle.show_text.specs.declared.sheet.Unwritten.{Unwritten}
use Rattle.types.specs.declared.outcome.ThreadReport.{ThreadReport}
use Rattle.replay_text.specs.Text.{record_text}
use Rattle.search_scheduled.specs.declared.running.MadeRun.{MadeRun}
use Rattle.host_calls.specs.declared.fault.HostFault.{HostFault}
use Rattle.spawn_host.specs.declared.end.EndState.{EndState}
use Rattle.host_instances.specs.Instances.{Instanced, left_by}
use Rattle.wathread_c.specs.Answers.{Puts, no_answer}
use Rattle.wathread_c.specs.Calls.{Comes, Comes.fails, Comes.ran, Fails, KeepsRun, KeepsWhole, MayTell, Tells, TellsLine, with_first}
use Rattle.wathread_c.specs.Kept.{kept_by, has_room}
use Rattle.wathread_c.specs.declared.answer.CallAnswer.{CallAnswer}
use Rattle.wathread_c.specs.declared.objects.Line.{Line}

pub may_tell : (says : ℕ → List ℕ → Type 0) (line : Result Line Unwritten) → IfOk line (λ l. says l.status l.text.items)
    → (before after : CallAnswer) (old new : List ℕ) (status : ℕ) → before.text ≡ 0 → TellsLine line before old new after status
    → MayTell says old new after status
may_tell says (Ok line) said before after old new status none t = inr (record {
  line = line.text.items;
  said = subst (λ (s : ℕ). says s line.text.items) (sym t.2) said;
  length_is = ap (λ (a : CallAnswer). a.text) t.1;
  puts = t.0;
})
may_tell says (Err e) said before after old new status none t =
    inl (record { five = t.2; kept = t.0; none = ap (λ (a : CallAnswer). a.text) t.1 ∙ none })

pub weaker : (P Q : ℕ → List ℕ → Type 0) → ((s : ℕ) (l : List ℕ) → P s l → Q s l) → (old new : List ℕ) (after : CallAnswer) (status : ℕ)
    → MayTell P old new after status → MayTell Q old new after status
weaker P Q f old new after status (inl failed) = inl failed
weaker P Q f old new after status (inr t) =
    inr (record { line = t.line; said = f status t.line t.said; length_is = t.length_is; puts = t.puts })

-- how many bytes there are isn't changed by what is told
pub keeps_bytes : (line : Result Line Unwritten) (before after : CallAnswer) (old new : List ℕ) (status : ℕ)
    → TellsLine line before old new after status → after.bytes ≡ before.bytes
keeps_bytes (Ok line) before after old new status t = ap (λ (a : CallAnswer). a.bytes) t.1
keeps_bytes (Err e) before after old new status t = ap (λ (a : CallAnswer). a.bytes) t.1

-- where memory was refused something more holds
pub may_stay : (Stays : Type 0) (P Q : ℕ → List ℕ → Type 0) → Stays → ((s : ℕ) (l : List ℕ) → P s l → Q s l) → (old new : List ℕ) (after : CallAnswer)
    (status : ℕ) → MayTell P old new after status → (Fails old new after status × Stays) ⊎ Tells Q old new after status
may_stay Stays P Q stays f old new after status (inl failed) = inl (failed, stays)
may_stay Stays P Q stays f old new after status (inr t) =
    inr (record { line = t.line; said = f status t.line t.said; length_is = t.length_is; puts = t.puts })

-- a line that there is
pub told_line : (Q : ℕ → List ℕ → Type 0) (line : Line) → Q line.status line.text.items → (before after : CallAnswer) (old new : List ℕ) (status : ℕ)
    → TellsLine (Ok line) before old new after status → Tells Q old new after status
told_line Q line said before after old new status t = record {
  line = line.text.items;
  said = subst (λ (s : ℕ). Q s line.text.items) (sym t.2) said;
  length_is = ap (λ (a : CallAnswer). a.text) t.1;
  puts = t.0;
}

-- a run whose record was kept, or wasn't since memory was refused
pub kept_or_five : (Stays : Type 0) (IsRun : MadeRun → Type 0) (IsFault : HostFault → Type 0) (made : MadeRun) (found : Option ℕ)
    (before after : CallAnswer) (old new : List ℕ) → before ≡ no_answer → KeepsRun made before old new after found → Stays → IsRun made
    → Comes Stays IsRun IsFault old new after (unwrap_or found 5)
kept_or_five Stays IsRun IsFault made None before after old new none kept stays run =
    fails stays (record { five = refl; kept = kept.0; answer_is = kept.1 ∙ none })
kept_or_five Stays IsRun IsFault made (Some status) before after old new none kept stays run =
    ran made run (subst (λ (a : CallAnswer). KeepsWhole made a old new after status) none kept)

same_bytes : (a : CallAnswer) (reports : List ThreadReport) → (with_first a reports).bytes ≡ a.bytes
same_bytes a [] = refl
same_bytes a (report ∷ reports) = refl

-- how many bytes its record has is answered
pub record_bytes : (made : MadeRun) (before after : CallAnswer) (old new : List ℕ) (status : ℕ) → KeepsWhole made before old new after status
    → after.bytes ≡ length (record_text made.record)
record_bytes made before after old new status kept =
    ap (λ (a : CallAnswer). a.bytes) kept.answer_is ∙ same_bytes (record before { bytes = length (record_text made.record) }) made.end.threads.items

-- a buffer stays as long as it is
pub puts_long : (old bytes new : List ℕ) → Puts old bytes new → length new ≡ length old
puts_long old bytes new puts = elim (cases_lt (length old) (length bytes)) [
  | inl short ↦ ap (λ (buffer : List ℕ). length buffer) (puts.too_long short)
  | inr fits ↦ ap (λ (buffer : List ℕ). length buffer) (puts.fits fits)
      ∙ (let whole = length-append bytes (drop (length bytes) old) in let rest = length-drop (length bytes) old in omega (arith, fits))
]

-- an instance that is kept where a buffer, as long as the one at first, has room for so many bytes
pub settled_so : (buffer later bytes : List ℕ) (count : ℕ) (room : Bool) (end : EndState) (i i' : Instanced)
    → room ≡ (length later == 0) || nat_le count (length later) → length later ≡ length buffer → count ≡ length bytes
    → i' ≡ (if room then left_by end i else i) → i' ≡ kept_by buffer bytes end i
settled_so buffer later bytes count room end i i' is long counted so =
    let same : room ≡ has_room buffer bytes =
    is ∙ (ap (λ n. (n == 0) || nat_le count n) long ∙ ap (λ k. (length buffer == 0) || nat_le k (length buffer)) counted) in
    so ∙ ap (λ (r : Bool). if r then left_by end i else i) same
