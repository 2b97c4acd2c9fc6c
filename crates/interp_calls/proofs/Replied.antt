-- Calls that started a thread: the question was asked.
use Rattle.std.proofs.Common.{◌≡◌, ℕ, ◌+◌, ◌-◌, ◌<◌, ◌≤◌, List, [], ◌∷◌, length, reverse, take, drop, Option, Some}
use Rattle.std.proofs.Common.{None, slice_get, nat_lt, nat_le, Bool, true, false, if◌then◌else◌, inl, inr, sym}
use Rattle.std.proofs.Common.{subst, arith}
use Rattle.std.proofs.lemmas.List.{length-reverse}
use Rattle.std.proofs.lemmas.Bool.{cases_lt}
use Rattle.types.specs.declared.value.Value.{Value}
use Rattle.types.specs.declared.value.Value.TheVariants as values
use Rattle.types.specs.declared.instr.PlainInstr.TheVariants as plain
use Rattle.types.specs.declared.instr.Instr.TheVariants.{Plain}
use Rattle.types.specs.declared.outcome.Trap.TheVariants.{StackExhausted}
use Rattle.types.specs.declared.parts.FuncType.{FuncType}
use Rattle.types.specs.Nesting.{Code}
use Rattle.types.specs.declared.limits.TheConstants.{MOST_VALUES, MOST_FRAMES}
use Rattle.validate_typing.specs.Tabled.{WithTables, IsValidated}
use Rattle.interp_machine.specs.Config.{Config, Goes, Traps, Stuck, values_of}
use Rattle.interp_machine.specs.Program.{Program, Function, program_of}
use Rattle.interp_machine.specs.Step.{next, limited, opens, calls, calls_own, calls_spawn, on_some}
use Rattle.interp_state.specs.declared.state.State.{State}
use Rattle.interp_state.specs.declared.state.Progress.TheVariants.{Asked}
use Rattle.interp_state.specs.Stands.{Stands}
use Rattle.interp_state.specs.Steps.{Replies, Wanting, IsAsking}
use Rattle.interp_state.proofs.Views.{still}
use Rattle.interp_state.proofs.Events.{undue, next_limited, not_asked}
use Rattle.interp_state.proofs.Words.{means_long}
use Rattle.interp_calls.proofs.Opening.{inner}
use Rattle.interp_calls.proofs.Calls.{spawn_replied, means_below, call_at, call_spawns}

-- ---- What asks nothing

chosen_asks : (c after : Config) (room : Bool) → IsAsking (if room then Goes after else Traps StackExhausted) → ⊥
chosen_asks c after true h = h
chosen_asks c after false h = h

opening_asks : (c after : Config) (few : Bool) → IsAsking (limited (if few then Goes after else Traps StackExhausted)) → ⊥
opening_asks c after true h = chosen_asks c after (nat_le (values_of after) MOST_VALUES) h
opening_asks c after false h = h

front_asks : (c after : Config) (enough : Bool) → IsAsking (limited (if enough then opens c after else Stuck)) → ⊥
front_asks c after true h = opening_asks c after (nat_lt (length after.callers) MOST_FRAMES) h
front_asks c after false h = h

some_asks : (c : Config) (t : FuncType) (rest : Code) (operands : List Value) (o : Option Function) →
    IsAsking (limited (on_some o (λ own. calls_own c t own rest operands))) → ⊥
some_asks c t rest operands None h = h
some_asks c t rest operands (Some own) h =
    front_asks c (inner c rest (take (length t.params) operands) (drop (length t.params) operands) t own) (nat_le (length t.params) (length operands)) h

-- a function of the module itself
pub own_asks : (p : Program) (c : Config) (f : ℕ) (t : FuncType) (rest : Code) (operands : List Value) → p.imported ≤ f →
    IsAsking (limited (calls p c f t rest operands)) → ⊥
own_asks p c f t rest operands k h =
    let g : nat_lt f p.imported ≡ false = search arith in
    some_asks c t rest operands (slice_get p.bodies (f - p.imported))
    (subst (λ (b : Bool). IsAsking (limited
    (if b then calls_spawn c rest operands else on_some (slice_get p.bodies (f - p.imported))
    (λ own. calls_own c t own rest operands)))) g h)

-- ---- Calls

pub call_imported : (s : State) (f : ℕ) → Wanting s (Plain (plain.Call f)) → f < s.program.imported
call_imported s f b =
    let p = program_of b.tables.parts in let st = b.stands in
    let x = call_at b.tables s b.config f st b.here (not_asked s _ b) in
    elim (cases_lt f s.program.imported) [
      | inl k ↦ k
      | inr k ↦
          let e = next_limited p b.config _ (undue b.tables s b.config st (not_asked s _ b)) x.runs in
          absurd (own_asks p b.config f x.func_type x.at.rest b.config.frame.operands (rw (sym st.program.imported) k) (subst IsAsking e b.asks))
    ]

pub call_pops : (s : State) (f : ℕ) → Wanting s (Plain (plain.Call f)) → 0 < length s.values.items
call_pops s f b =
    let st = b.stands in let x = call_spawns b.tables s b.config st f b.valid (call_imported s f b) (call_at b.tables s b.config f st b.here (not_asked s _ b))
    in
    let a = means_long _ _ x.values in let d = length-reverse s.values.items in omega arith

pub call_heard : (w : WithTables) (s n : State) (c : Config) (f number word : ℕ) → IsValidated w → Stands w s c → Wanting s (Plain (plain.Call f)) →
    still n ≡ still s → n.pc ≡ s.pc + 1 → n.progress ≡ Asked → n.globals.items ≡ s.globals.items → reverse s.values.items ≡ word ∷ reverse n.values.items →
    Replies w (next (program_of w.parts) c) number n
call_heard w s n c f number word valid st b e k p g h =
    let x = call_spawns w s c st f valid (call_imported s f b) (call_at w s c f st b.here (not_asked s _ b)) in
    spawn_replied w s n c st [] x number (not_asked s _ b) e k p g (means_below _ _ word (values.I32 x.arg) _ x.values h)
