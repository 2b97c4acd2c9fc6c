-- What a watch has seen of a walk.
use Rattle.std.proofs.Common.{◌≡◌, ℕ, ◌+◌, ◌<◌, ◌≤◌, Bool, true, false, inr, List, [], ◌∷◌, ◌++◌, length, take, get_or}
use Rattle.std.proofs.Common.{Some, refl, sym, ap, subst, ◌∙◌, arith, slice_get}
use Rattle.std.proofs.lemmas.List.{take_more, length-take-le}
use Rattle.std.proofs.lemmas.Option.{slice_get-get_or}
use Rattle.std.proofs.Math.Seq.{take-length}
use Rattle.types.specs.declared.event.Entry.{Entry}
use Rattle.interp_trait.specs.Turns.{Meaning}
use Rattle.interp_trait.specs.declared.turn.Turn.{Turn}
use Rattle.interp_trait.specs.declared.turn.Turn.TheVariants as turns
use Rattle.replay_walk.specs.declared.walk.Walk.{Walk}
use Rattle.replay_walk.specs.Standing.{SettlesThread}
use Rattle.replay_walk.specs.Seen.{Sight, Sight.Came, Sight.Settled, Sight.Wanted, IsToldOf, IsShown, SeesEvent, SeesEntry, SeesNext, SeesLog}
use Rattle.replay_walk.specs.Seen.{CameAlong, SeesUpTo, SeesWhole}

module _ {S W : Type 0} (meaning : S → Meaning) (sees : W → Sight S → W → Type 0) where
  pub told_of : (w : Walk S) (n : ℕ) (turn : Turn) (xs ys : List S) (old new : W) → xs ≡ w.threads.items
      → SettlesThread meaning xs n turn ys → sees old (Settled n turn) new → IsToldOf meaning sees w n turn old new
  told_of w n turn xs ys old new same settles tells = record {
    settled = ys;
    settles = subst (λ (zs : List S). SettlesThread meaning zs n turn ys) same settles;
    tells = tells;
  }

  pub shown_of : (w : Walk S) (e : Entry) (turn : Turn) (xs ys : List S) (old between new : W) → xs ≡ w.threads.items
      → SettlesThread meaning xs e.thread turn ys → turn ≡ turns.Wants e.event → sees old (Settled e.thread turn) between
      → ((x : S) × (slice_get ys e.thread ≡ Some x) × sees between (Wanted e x w.memory) new) → IsShown meaning sees w e old new
  unfolding told_of
  shown_of w e turn xs ys old between new same settles is tells shows = record {
    between = between;
    told = told_of w e.thread (turns.Wants e.event) xs ys old between same
        (subst (λ (t : Turn). SettlesThread meaning xs e.thread t ys) is settles)
        (subst (λ (t : Turn). sees old (Settled e.thread t) between) is tells);
    thread = shows.0;
    at = shows.1;
    shows = shows.2;
  }

  -- one more entry
  log_by : (Stands : ℕ → Walk S → Type 0) (limit count more : ℕ) (e : Entry) (old new : W) → more ≡ count
      → SeesNext meaning sees Stands limit count e true old new → SeesNext meaning sees Stands limit more e true old new
  log_by Stands limit count more e old new same h =
      subst (λ (k : ℕ). SeesNext meaning sees Stands limit k e true old new) (sym same) h

  pub log_more : (Stands : ℕ → Walk S → Type 0) (limit : ℕ) (log : List Entry) (count at : ℕ) (e : Entry) (old mid new : W)
      → at ≡ count + length log → SeesLog meaning sees Stands limit count log old mid → SeesNext meaning sees Stands limit at e true mid new
      → SeesLog meaning sees Stands limit count (log ++ e ∷ []) old new
  log_more Stands limit [] count at e old mid new same seen next =
      let here : count ≡ at = omega (arith, same) in
      (new, log_by Stands limit at count e old new here (subst (λ (m : W). SeesNext meaning sees Stands limit at e true m new) seen next), refl)
  log_more Stands limit (f ∷ log) count at e old mid new same seen next =
      let on : at ≡ (count + 1) + length log = omega (arith, same) in
      (seen.0, seen.1, log_more Stands limit log (count + 1) at e seen.0 mid new on seen.2 next)

  -- what is seen at one place of a log
  next_of : (Stands : ℕ → Walk S → Type 0) (limit at : ℕ) (e : Entry) (taken found : Bool) (w : Walk S) (old between new : W)
      → Stands at w → sees old (Came at w) between → SeesEntry meaning sees limit at w e taken between new → taken ≡ found
      → SeesNext meaning sees Stands limit at e found old new
  next_of Stands limit at e taken found w old between new stands came entry is =
      let next : SeesNext meaning sees Stands limit at e taken old new =
      record { walk = w; stands = stands; between = between; came = came; entry = entry } in
      subst (λ (t : Bool). SeesNext meaning sees Stands limit at e t old new) is next

  pub goes_on_seen : (first : Walk S) (limit : ℕ) (log : List Entry) (at : ℕ) (z : Entry) (taken : Bool) (w : Walk S)
      (old mid between new : W) → at < length log → SeesLog meaning sees (CameAlong meaning first limit log) limit 0 (take at log) old mid
      → CameAlong meaning first limit log at w → sees mid (Came at w) between
      → SeesEntry meaning sees limit at w (get_or log at z) taken between new → taken ≡ true
      → SeesLog meaning sees (CameAlong meaning first limit log) limit 0 (take (at + 1) log) old new
  goes_on_seen first limit log at z taken w old mid between new lt seen stands came entry is =
      let e = get_or log at z in
      let long : at ≡ 0 + length (take at log) = omega (arith, length-take-le at log (omega (arith, lt))) in
      subst (λ (xs : List Entry). SeesLog meaning sees (CameAlong meaning first limit log) limit 0 xs old new) (sym (take_more log at z lt))
      (log_more (CameAlong meaning first limit log) limit (take at log) 0 at e old mid new long seen
      (next_of (CameAlong meaning first limit log) limit at e taken true w mid between new stands came entry is))

  pub stops_seen : (first : Walk S) (limit : ℕ) (log : List Entry) (at : ℕ) (z : Entry) (taken : Bool) (w : Walk S)
      (old mid between new : W) → at < length log → SeesLog meaning sees (CameAlong meaning first limit log) limit 0 (take at log) old mid
      → CameAlong meaning first limit log at w → sees mid (Came at w) between
      → SeesEntry meaning sees limit at w (get_or log at z) taken between new → taken ≡ false → (k : ℕ) → at ≡ k
      → SeesUpTo meaning sees first limit log k old new
  stops_seen first limit log at z taken w old mid between new lt seen stands came entry is k same =
      let e = get_or log at z in
      subst (λ (j : ℕ). SeesUpTo meaning sees first limit log j old new) same (
        e,
        slice_get-get_or log at z lt,
        mid,
        seen,
        next_of (CameAlong meaning first limit log) limit at e taken false w mid between new stands came entry is,
      )

  pub ends_seen : (first : Walk S) (limit : ℕ) (log : List Entry) (at : ℕ) (last : Walk S) (old mid new : W) → at ≤ length log
      → length log ≤ at → SeesLog meaning sees (CameAlong meaning first limit log) limit 0 (take at log) old mid
      → sees mid (Came (length log) last) new → SeesWhole meaning sees first limit log last old new
  ends_seen first limit log at last old mid new inside none seen came =
      let all : at ≡ length log = omega (arith, inside, none) in
      let same : take at log ≡ log = ap (λ (j : ℕ). take j log) all ∙ take-length log in
      (mid, subst (λ (xs : List Entry). SeesLog meaning sees (CameAlong meaning first limit log) limit 0 xs old mid) same seen, came)

  -- an event that was shown, taken or not
  pub seen_by : (limit count : ℕ) (w : Walk S) (e : Entry) (taken : Bool) (old new : W) → IsShown meaning sees w e old new
      → SeesEvent meaning sees limit count w e taken old new
  seen_by limit count w e true old new shown = shown
  seen_by limit count w e false old new shown = inr (inr shown)
