-- From what a moment sees of a walk along a whole log to the walk that it keeps.
use Rattle.std.proofs.Common.{◌≡◌, ◌≢◌, ◌∙◌, inl, inr, ℕ, ◌+◌, ◌<◌, ◌≤◌, Bool, true, false, List, [], ◌∷◌, length, take}
use Rattle.std.proofs.Common.{refl, sym, ap, subst, arith}
use Rattle.std.proofs.lemmas.Bool.{cases_eq, false≢true}
use Rattle.std.proofs.lemmas.List.{take_all}
use Rattle.std.specs.List.{AllZip}
use Rattle.types.specs.declared.event.Entry.{Entry}
use Rattle.types.specs.declared.event.Event.{Event}
use Rattle.types.specs.declared.event.Event.TheVariants.{Size, Grow, Load, Store, Rmw, Cmpxchg, Ask, Told}
use Rattle.types.specs.declared.event.Question.TheVariants.{Wait, Notify, Spawn, Leave}
use Rattle.interp.specs.declared.thread.Thread.{Thread}
use Rattle.interp_trait.specs.Turns.{Meaning}
use Rattle.interp_trait.specs.declared.turn.Turn.{Turn}
use Rattle.replay_walk.specs.declared.walk.Walk.{Walk}
use Rattle.replay_walk.specs.Seen.{CameAlong, IsShown, IsToldOf, SeesBy, SeesLog, SeesNext, SeesWhole}
use Rattle.replay_walk.specs.Walked.{ComesAlong, WalkCame}
use Rattle.show_moments.specs.declared.moment.Moment.{Moment}
use Rattle.show_moments.specs.declared.moment.Bytes.{Bytes}
use Rattle.show_moments.specs.Moments.{bytes_of, IsOfSame, IsRound, KeepsRound, MomentSees, StandsIn}

-- what isn't the moment's own entry leaves of it
record Kept (old new : Moment) : Type 0 where
  at : new.at ≡ old.at
  wanted : new.wanted ≡ old.wanted
  round : KeepsRound old new
  short : new.is_short ≡ false → old.is_short ≡ false

-- it is before the same entry, with the same bytes
abbrev pub AsksSame : Moment → Moment → Type 0
AsksSame old new = (new.at ≡ old.at) × (new.wanted ≡ old.wanted)

not_short : (a b : Bool) → (a ≡ true → b ≡ true) → b ≡ false → a ≡ false
not_short false b f is = refl
not_short true b f is = absurd (false≢true (sym is ∙ f refl))

kept_of : (old new : Moment) → IsOfSame old new → KeepsRound old new → Kept old new
kept_of old new same round = record {
  at = same.at;
  wanted = same.wanted;
  round = round;
  short = not_short old.is_short new.is_short same.short;
}

kept_same : (old new : Moment) → new ≡ old → Kept old new
kept_same old new is = record {
  at = ap (λ (m : Moment). m.at) is;
  wanted = ap (λ (m : Moment). m.wanted) is;
  round = record {
    queue = ap (λ (m : Moment). m.queue) is;
    bytes = ap (λ (m : Moment). m.bytes) is;
    memory = ap (λ (m : Moment). m.memory) is;
    here = ap (λ (m : Moment). m.here) is;
  };
  short = λ no. sym (ap (λ (m : Moment). m.is_short) is) ∙ no;
}

kept_then : (a b c : Moment) → Kept a b → Kept b c → Kept a c
kept_then a b c x y = record {
  at = y.at ∙ x.at;
  wanted = y.wanted ∙ x.wanted;
  round = record {
    queue = y.round.queue ∙ x.round.queue;
    bytes = y.round.bytes ∙ x.round.bytes;
    memory = y.round.memory ∙ x.round.memory;
    here = y.round.here ∙ x.round.here;
  };
  short = λ no. x.short (y.short no);
}

round_kept : (old new : Moment) (w : Walk Thread) → Kept old new → IsRound old w → IsRound new w
round_kept old new w k round = record {
  queue = round.queue;
  kept = k.round.queue ∙ round.kept;
  same = round.same;
  bytes = ap (λ v. v.items) k.round.bytes ∙ (round.bytes ∙ ap (λ (b : Bytes). bytes_of w.memory.bytes b) (sym k.wanted));
  memory = ap (λ v. v.items) k.round.memory ∙ round.memory;
  here = subst (λ v. AllZip StandsIn w.threads.items v.items) (sym k.round.here) round.here;
}

module _ (meaning : Thread → Meaning) where
  told_keeps : (w : Walk Thread) (n : ℕ) (turn : Turn) (old new : Moment) → IsToldOf meaning MomentSees w n turn old new → Kept old new
  told_keeps w n turn old new told = kept_same old new told.tells

  shown_keeps : (w : Walk Thread) (e : Entry) (old new : Moment) → IsShown meaning MomentSees w e old new → Kept old new
  shown_keeps w e old new shown = kept_then old shown.between new
      (kept_same old shown.between shown.told.tells) (kept_of shown.between new shown.shows.same shown.shows.round)

  entry_keeps : (event : Event) (limit count : ℕ) (w : Walk Thread) (e : Entry) (old new : Moment)
      → SeesBy meaning MomentSees event limit count w e true old new → Kept old new
  entry_keeps (Told answer) limit count w e old new sees = kept_same old new sees
  entry_keeps (Ask Leave) limit count w e old new sees = told_keeps w e.thread sees.0 old new sees.1
  entry_keeps (Ask (Wait addr width expected timeout)) limit count w e old new sees = shown_keeps w e old new sees
  entry_keeps (Ask (Notify addr most)) limit count w e old new sees = shown_keeps w e old new sees
  entry_keeps (Ask (Spawn arg)) limit count w e old new sees = shown_keeps w e old new sees
  entry_keeps Size limit count w e old new sees = shown_keeps w e old new sees
  entry_keeps (Grow more) limit count w e old new sees = shown_keeps w e old new sees
  entry_keeps (Load addr width reach) limit count w e old new sees = shown_keeps w e old new sees
  entry_keeps (Store addr width reach value) limit count w e old new sees = shown_keeps w e old new sees
  entry_keeps (Rmw op addr width value) limit count w e old new sees = shown_keeps w e old new sees
  entry_keeps (Cmpxchg addr width expected replacement) limit count w e old new sees = shown_keeps w e old new sees

  module _ (Stands : ℕ → Walk Thread → Type 0) (limit : ℕ) where
    -- an entry elsewhere
    next_keeps : (count : ℕ) (e : Entry) (old new : Moment) → count ≢ old.at
        → SeesNext meaning MomentSees Stands limit count e true old new → Kept old new
    next_keeps count e old new apart next = kept_then old next.between new
        (kept_of old next.between next.came.same (next.came.elsewhere apart))
        (entry_keeps e.event limit count next.walk e next.between new next.entry)

    log_keeps : (log : List Entry) (count : ℕ) (old new : Moment) → old.at < count
        → SeesLog meaning MomentSees Stands limit count log old new → Kept old new
    log_keeps [] count old new past sees = kept_same old new sees
    log_keeps (e ∷ log) count old new past (between, next, rest) =
        let here = next_keeps count e old between (λ is. (let no : ⊥ = omega (arith, past, is) in no)) next in
        let behind : between.at < count + 1 = (let same = here.at in omega (arith, past, same)) in
        kept_then old between new here (log_keeps log (count + 1) between new behind rest)

    next_asks : (count : ℕ) (e : Entry) (old new : Moment) → SeesNext meaning MomentSees Stands limit count e true old new
        → AsksSame old new
    next_asks count e old new next =
        let k = entry_keeps e.event limit count next.walk e next.between new next.entry in
        (k.at ∙ next.came.same.at, k.wanted ∙ next.came.same.wanted)

    log_asks : (log : List Entry) (count : ℕ) (old new : Moment) → SeesLog meaning MomentSees Stands limit count log old new
        → AsksSame old new
    log_asks [] count old new sees = (ap (λ (m : Moment). m.at) sees, ap (λ (m : Moment). m.wanted) sees)
    log_asks (e ∷ log) count old new (between, next, rest) =
        let here = next_asks count e old between next in
        let all = log_asks log (count + 1) between new rest in
        (all.0 ∙ here.0, all.1 ∙ here.1)

    -- the entry of the moment
    next_sees : (count : ℕ) (e : Entry) (old new : Moment) → count ≡ old.at → new.is_short ≡ false
        → SeesNext meaning MomentSees Stands limit count e true old new
        → (w : Walk Thread) × Stands old.at w × IsRound new w
    next_sees count e old new is whole next =
        let rest = entry_keeps e.event limit count next.walk e next.between new next.entry in (
          next.walk,
          subst (λ (k : ℕ). Stands k next.walk) is next.stands,
          round_kept next.between new next.walk rest (next.came.there is (rest.short whole)),
        )

    log_sees : (log : List Entry) (count : ℕ) (old new : Moment) → count ≤ old.at → old.at < count + length log
        → new.is_short ≡ false → SeesLog meaning MomentSees Stands limit count log old new
        → (w : Walk Thread) × Stands old.at w × IsRound new w
    log_sees [] count old new from to whole sees = let no : ⊥ = omega (arith, from, to) in absurd no
    log_sees (e ∷ log) count old new from to whole (between, next, rest) =
        let same = (next_asks count e old between next).0 in
        elim (cases_eq count old.at) [
          | inl is ↦ (
              let behind : between.at < count + 1 = omega (arith, is, same) in
              let k = log_keeps log (count + 1) between new behind rest in
              let found = next_sees count e old between is (k.short whole) next in
              (found.0, found.1, round_kept between new found.0 k found.2)
              )
          | inr apart ↦ (
              let low : count + 1 ≤ between.at = omega (arith, from, apart, same) in
              let high : between.at < count + 1 + length log = omega (arith, to, same) in
              let found = log_sees log (count + 1) between new low high whole rest in
              (found.0, subst (λ (j : ℕ). Stands j found.0) same found.1, found.2)
              )
        ]

  -- Behind a walk along a whole log the moment is that of the walk along so many of its entries.
  pub whole_sees : (first last : Walk Thread) (limit : ℕ) (log : List Entry) (old new : Moment) → old.at ≤ length log
      → new.is_short ≡ false → ComesAlong meaning first limit log last
      → SeesWhole meaning MomentSees first limit log last old new
      → (w : Walk Thread) × CameAlong meaning first limit log old.at w × IsRound new w
  whole_sees first last limit log old new within whole comes (between, sees, came) =
      let Stands = CameAlong meaning first limit log in
      let same = (log_asks Stands limit log 0 old between sees).0 in
      elim (cases_eq old.at (length log)) [
        | inl is ↦ (
            let all : take old.at log ≡ log = take_all old.at log (omega (arith, is)) in (
              last,
              λ r begins most. subst (λ (l : List Entry). WalkCame meaning r l last) (sym all) (comes r begins most),
              came.there (sym is ∙ sym same) whole,
            )
            )
        | inr apart ↦ (
            let low : old.at < 0 + length log = omega (arith, within, apart) in
            let k = kept_of between new came.same (came.elsewhere (λ is. (let no : ⊥ = omega (arith, same, is, apart) in no))) in
            let found = log_sees Stands limit log 0 old between (omega arith) low (k.short whole) sees in
            (found.0, found.1, round_kept between new found.0 k found.2)
            )
      ]

  pub whole_asks : (first last : Walk Thread) (limit : ℕ) (log : List Entry) (old new : Moment)
      → SeesWhole meaning MomentSees first limit log last old new → AsksSame old new
  whole_asks first last limit log old new (between, sees, came) =
      let all = log_asks (CameAlong meaning first limit log) limit log 0 old between sees in
      (came.same.at ∙ all.0, came.same.wanted ∙ all.1)
