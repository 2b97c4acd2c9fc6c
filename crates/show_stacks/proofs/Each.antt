-- What a watch has of the entry at one place that is named, as it sees a log.
use Rattle.std.proofs.Common.{◌≡◌, ◌≢◌, ◌==◌, ◌∙◌, ◌+◌, ◌<◌, ◌⊎◌, inl, inr, ℕ, zero, suc, Bool, true, false}
use Rattle.std.proofs.Common.{List, [], ◌∷◌, length, replicate}
use Rattle.std.proofs.Common.{Option, Some, None, option_map, unwrap_or, slice_set, get_or, ap, arith, refl, subst, sym}
use Rattle.std.proofs.lemmas.Bool.{eqb-true}
use Rattle.std.proofs.lemmas.List.{get_or-replicate, get_or-set_other, get_or-set_same}
use Rattle.std.proofs.lemmas.List.{length-map, length-replicate, length-set}
use Rattle.std.proofs.lemmas.List.Quantifiers.{position-Some}
use Rattle.std.proofs.lemmas.Option.{slice_get-get_or, slice_get-map, unwrap_or-slice_get}
use Rattle.std.specs.Global.{Vec}
use Rattle.std.specs.List.{slice_get}
use Rattle.types.specs.declared.event.Event.{Event}
use Rattle.types.specs.declared.event.Event.TheVariants as events
use Rattle.types.specs.declared.event.Question.TheVariants as questions
use Rattle.types.specs.declared.event.Entry.{Entry}
use Rattle.types.specs.declared.parts.Parts.{Parts}
use Rattle.interp.specs.declared.place.CodePlace.{CodePlace}
use Rattle.interp.specs.declared.thread.Thread.{Thread}
use Rattle.interp.specs.Threads.{meaning_in}
use Rattle.interp_trait.specs.declared.turn.Turn.TheVariants as turns
use Rattle.replay_text.specs.declared.parts.RecordParts.{RecordParts}
use Rattle.replay_walk.specs.declared.walk.Walk.{Walk}
use Rattle.replay_walk.specs.Seen.{CameAlong, SeesBy, SeesLog, SeesNext, IsShown}
use Rattle.replay_walk.specs.Standing.{SettlesThread}
use Rattle.spawn_host.specs.declared.end.EndState.{EndState}
use Rattle.show_stacks.specs.declared.stacks.EntryStacks.{EntryStacks}
use Rattle.show_stacks.specs.declared.stacks.StackWatch.{StackWatch}
use Rattle.show_stacks.specs.Stacks.{HasCalls, SeesWanted, SetsAny, StacksSee, calls_at, calls_in, lists, seat_of}
use Rattle.show_stacks.specs.Seen.{AreStacksOf, HasEach, IsStackOf, IsStackAt, is_wanted}

abbrev items_of : Option (Vec CodePlace) → List CodePlace
items_of o = unwrap_or (option_map (λ (v : Vec CodePlace). v.items) o) []

set_here : (all : List (Vec CodePlace)) (k : ℕ) (v : Vec CodePlace) → k < length all
    → calls_in (slice_set all k v) (Some k) ≡ v.items
set_here all k v lt =
    let within : k < length (slice_set all k v) = omega (arith, lt, length-set all k v) in
    ap items_of (slice_get-get_or (slice_set all k v) k v within
    ∙ ap (λ (x : Vec CodePlace). Some x) (get_or-set_same all k v v lt))

set_other : (all : List (Vec CodePlace)) (j k : ℕ) (v : Vec CodePlace) → k ≢ j → k < length all
    → calls_in (slice_set all j v) (Some k) ≡ calls_in all (Some k)
set_other all j k v ne lt =
    let within : k < length (slice_set all j v) = omega (arith, lt, length-set all j v) in
    ap items_of (slice_get-get_or (slice_set all j v) k v within
    ∙ ap (λ (x : Vec CodePlace). Some x) (get_or-set_other all j k v v ne)
    ∙ sym (slice_get-get_or all k v lt))

length_any : (thread : Thread) (o : Option ℕ) (old new : List (Vec CodePlace)) → SetsAny thread o old new
    → length new ≡ length old
length_any thread None old new s = ap length s
length_any thread (Some j) old new s = ap length s.sets ∙ length-set old j s.calls

other_any : (thread : Thread) (o : Option ℕ) (k : ℕ) (old new : List (Vec CodePlace))
    → ((j : ℕ) → o ≡ Some j → k ≢ j) → k < length old
    → SetsAny thread o old new → calls_in new (Some k) ≡ calls_in old (Some k)
other_any thread None k old new ne lt s = ap (λ (l : List (Vec CodePlace)). calls_in l (Some k)) s
other_any thread (Some j) k old new ne lt s =
    ap (λ (l : List (Vec CodePlace)). calls_in l (Some k)) s.sets ∙ set_other old j k s.calls (ne j refl) lt

here_any : (thread : Thread) (k : ℕ) (old new : List (Vec CodePlace)) → k < length old → SetsAny thread (Some k) old new
    → HasCalls thread (calls_in new (Some k))
here_any thread k old new lt s = subst (λ (c : List CodePlace). HasCalls thread c)
    (sym (ap (λ (l : List (Vec CodePlace)). calls_in l (Some k)) s.sets ∙ set_here old k s.calls lt)) s.has

-- The place at the number of a place is that place.
seat_is : (places : List ℕ) (at k : ℕ) → seat_of places at ≡ Some k → get_or places k 0 ≡ at
seat_is places at k e = eqb-true _ _ (position-Some (λ place. place == at) places k 0 e).1

other_seat : (places : List ℕ) (at k count j : ℕ) → seat_of places at ≡ Some k → count ≢ at
    → seat_of places count ≡ Some j → k ≢ j
other_seat places at k count j is ne there e =
    ne (sym (seat_is places count j there) ∙ ap (λ (n : ℕ). get_or places n 0) (sym e) ∙ seat_is places at k is)

back : (a b : Bool) → (a ≡ true → b ≡ true) → b ≡ false → a ≡ false
back false b f e = refl
back true b f e = absurd (let t = f refl in cc)

-- Of an entry that isn't wanted nothing is kept.
record Quiet (old new : StackWatch) : Type 0 where
  pub stacks : new.stacks ≡ old.stacks
  pub short : new.is_short ≡ old.is_short

-- Of another one its thread is seen.
record Shown (Stands : Walk Thread → Type 0) (count : ℕ) (e : Entry) (old new : StackWatch) : Type 0 where
  pub walk : Walk Thread
  pub stands : Stands walk
  pub settled : List Thread
  pub settles : SettlesThread meaning_in walk.threads.items e.thread (turns.Wants e.event) settled
  pub thread : Thread
  pub there : slice_get settled e.thread ≡ Some thread
  pub sees : SeesWanted (record old { came = count }) thread new

abbrev Step : (Walk Thread → Type 0) → ℕ → Entry → Event → StackWatch → StackWatch → Type 0
Step Stands count e event old new =
    ((is_wanted event ≡ false) × Quiet old new) ⊎ ((is_wanted event ≡ true) × Shown Stands count e old new)

module _ (Stands : Walk Thread → Type 0) (limit count : ℕ) (w : Walk Thread) (e : Entry) (old between new : StackWatch)
    (stands : Stands w) (came : between ≡ record old { came = count }) where
  quiet : new ≡ between → Quiet old new
  quiet same = record {
    stacks = ap (λ (x : StackWatch). x.stacks) (same ∙ came);
    short = ap (λ (x : StackWatch). x.is_short) (same ∙ came);
  }

  shown : IsShown meaning_in StacksSee w e between new → Shown Stands count e old new
  shown s = record {
    walk = w;
    stands = stands;
    settled = s.told.settled;
    settles = s.told.settles;
    thread = s.thread;
    there = s.at;
    sees = subst (λ (x : StackWatch). SeesWanted x s.thread new) (s.told.tells ∙ came) s.shows;
  }

  stepping : (event : Event) → SeesBy meaning_in StacksSee event limit count w e true between new
      → Step Stands count e event old new
  stepping (events.Told answer) s = inl (refl, quiet s)
  stepping (events.Ask questions.Leave) s = inl (refl, quiet s.1.tells)
  stepping (events.Ask (questions.Wait a b c d)) s = inr (refl, shown s)
  stepping (events.Ask (questions.Notify a b)) s = inr (refl, shown s)
  stepping (events.Ask (questions.Spawn a)) s = inr (refl, shown s)
  stepping events.Size s = inr (refl, shown s)
  stepping (events.Grow pages) s = inr (refl, shown s)
  stepping (events.Load a b c) s = inr (refl, shown s)
  stepping (events.Store a b c d) s = inr (refl, shown s)
  stepping (events.Rmw a b c d) s = inr (refl, shown s)
  stepping (events.Cmpxchg a b c d) s = inr (refl, shown s)

module _ (Stands : Walk Thread → Type 0) (count : ℕ) (e : Entry) (old new : StackWatch) where
  same_places : Step Stands count e e.event old new → new.stacks.places ≡ old.stacks.places
  same_places (inl (_, q)) = ap (λ (x : EntryStacks). x.places) q.stacks
  same_places (inr (_, s)) = s.sees.places

  short_back : Step Stands count e e.event old new → new.is_short ≡ false → old.is_short ≡ false
  short_back (inl (_, q)) whole = sym q.short ∙ whole
  short_back (inr (_, s)) whole = back old.is_short new.is_short s.sees.short whole

  same_length : Step Stands count e e.event old new → new.is_short ≡ false
      → length new.stacks.calls.items ≡ length old.stacks.calls.items
  same_length (inl (_, q)) whole = ap (λ (x : EntryStacks). length x.calls.items) q.stacks
  same_length (inr (_, s)) whole =
      length_any s.thread (seat_of old.stacks.places.items count) old.stacks.calls.items new.stacks.calls.items
      (s.sees.sets whole)

  module _ (at k : ℕ) (is : seat_of old.stacks.places.items at ≡ Some k) (lt : k < length old.stacks.calls.items)
      (whole : new.is_short ≡ false) where
    elsewhere : count ≢ at → Step Stands count e e.event old new
        → calls_in new.stacks.calls.items (Some k) ≡ calls_in old.stacks.calls.items (Some k)
    elsewhere ne (inl (_, q)) = ap (λ (x : EntryStacks). calls_in x.calls.items (Some k)) q.stacks
    elsewhere ne (inr (_, s)) = other_any s.thread (seat_of old.stacks.places.items count) k old.stacks.calls.items
        new.stacks.calls.items (λ j there. other_seat old.stacks.places.items at k count j is ne there) lt
        (s.sees.sets whole)

    here : count ≡ at → calls_in old.stacks.calls.items (Some k) ≡ [] → Step Stands count e e.event old new
        → IsStackOf Stands e (calls_in new.stacks.calls.items (Some k))
    here same none (inl (rests, q)) = record {
      wanted = λ wants. absurd (cc (wants, rests));
      other = λ _. ap (λ (x : EntryStacks). calls_in x.calls.items (Some k)) q.stacks ∙ none;
    }
    here same none (inr (wants, s)) = record {
      wanted = λ _. record {
        walk = s.walk;
        stands = s.stands;
        settled = s.settled;
        settles = s.settles;
        thread = s.thread;
        there = s.there;
        has = here_any s.thread k old.stacks.calls.items new.stacks.calls.items lt
            (subst (λ (o : Option ℕ). SetsAny s.thread o old.stacks.calls.items new.stacks.calls.items)
            (ap (seat_of old.stacks.places.items) same ∙ is) (s.sees.sets whole));
      };
      other = λ rests. absurd (cc (wants, rests));
    }

module _ (near : ℕ → Walk Thread → Type 0) (limit : ℕ) where
  step_of : (count : ℕ) (e : Entry) (old new : StackWatch)
      → SeesNext meaning_in StacksSee near limit count e true old new → Step (near count) count e e.event old new
  step_of count e old new n =
      stepping (near count) limit count n.walk e old n.between new n.stands n.came e.event n.entry

  short_along : (count : ℕ) (log : List Entry) (old new : StackWatch)
      → SeesLog meaning_in StacksSee near limit count log old new → new.is_short ≡ false → old.is_short ≡ false
  short_along count [] old new s whole = ap (λ (x : StackWatch). x.is_short) (sym s) ∙ whole
  short_along count (e ∷ log) old new s whole = short_back (near count) count e old s.0 (step_of count e old s.0 s.1)
      (short_along (count + 1) log s.0 new s.2 whole)

  places_along : (count : ℕ) (log : List Entry) (old new : StackWatch)
      → SeesLog meaning_in StacksSee near limit count log old new → new.stacks.places ≡ old.stacks.places
  places_along count [] old new s = ap (λ (x : StackWatch). x.stacks.places) s
  places_along count (e ∷ log) old new s = places_along (count + 1) log s.0 new s.2
      ∙ same_places (near count) count e old s.0 (step_of count e old s.0 s.1)

  -- Behind the place nothing changes there.
  behind : (at k count : ℕ) (log : List Entry) (old new : StackWatch) → at < count
      → seat_of old.stacks.places.items at ≡ Some k → k < length old.stacks.calls.items → new.is_short ≡ false
      → SeesLog meaning_in StacksSee near limit count log old new
      → calls_in new.stacks.calls.items (Some k) ≡ calls_in old.stacks.calls.items (Some k)
  behind at k count [] old new lt is within whole s = ap (λ (x : StackWatch). calls_in x.stacks.calls.items (Some k)) s
  behind at k count (e ∷ log) old new lt is within whole s =
      let step = step_of count e old s.0 s.1 in
      let short = short_along (count + 1) log s.0 new s.2 whole in
      let moved : seat_of s.0.stacks.places.items at ≡ Some k =
      ap (λ (v : Vec ℕ). seat_of v.items at) (same_places (near count) count e old s.0 step) ∙ is in
      let long : k < length s.0.stacks.calls.items =
      omega (arith, within, same_length (near count) count e old s.0 step short) in
      let later : at < count + 1 = omega (arith, lt) in
      let other : count ≢ at = λ (same : count ≡ at). absurd (omega (arith, lt, same)) in
      behind at k (count + 1) log s.0 new later moved long whole s.2
      ∙ elsewhere (near count) count e old s.0 at k is within short other step

  -- So many entries on is the entry at the place: what is kept of it.
  along : (at n k count : ℕ) (log : List Entry) (old new : StackWatch) → at ≡ count + n
      → seat_of old.stacks.places.items at ≡ Some k → k < length old.stacks.calls.items → new.is_short ≡ false
      → calls_in old.stacks.calls.items (Some k) ≡ [] → SeesLog meaning_in StacksSee near limit count log old new
      → IsStackAt (near at) (slice_get log n) (calls_in new.stacks.calls.items (Some k))
  along at n k count [] old new e is within whole none s =
      ap (λ (x : StackWatch). calls_in x.stacks.calls.items (Some k)) s ∙ none
  along at zero k count (made ∷ log) old new e is within whole none s =
      let step = step_of count made old s.0 s.1 in
      let short = short_along (count + 1) log s.0 new s.2 whole in
      let same : count ≡ at = omega (arith, e) in
      let moved : seat_of s.0.stacks.places.items at ≡ Some k =
      ap (λ (v : Vec ℕ). seat_of v.items at) (same_places (near count) count made old s.0 step) ∙ is in
      let long : k < length s.0.stacks.calls.items =
      omega (arith, within, same_length (near count) count made old s.0 step short) in
      let later : at < count + 1 = omega (arith, e) in
      let kept = behind at k (count + 1) log s.0 new later moved long whole s.2 in
      subst (λ (c : List CodePlace). IsStackOf (near at) made c) (sym kept)
      (subst (λ (m : ℕ). IsStackOf (near m) made (calls_in s.0.stacks.calls.items (Some k))) same
      (here (near count) count made old s.0 at k is within short same none step))
  along at (suc n) k count (made ∷ log) old new e is within whole none s =
      let step = step_of count made old s.0 s.1 in
      let short = short_along (count + 1) log s.0 new s.2 whole in
      let other : count ≢ at = λ (same : count ≡ at). absurd (omega (arith, e, same)) in
      let moved : seat_of s.0.stacks.places.items at ≡ Some k =
      ap (λ (v : Vec ℕ). seat_of v.items at) (same_places (near count) count made old s.0 step) ∙ is in
      let long : k < length s.0.stacks.calls.items =
      omega (arith, within, same_length (near count) count made old s.0 step short) in
      let on : at ≡ count + 1 + n = omega (arith, e) in
      along at n k (count + 1) log s.0 new on moved long whole
      (elsewhere (near count) count made old s.0 at k is within short other step ∙ none) s.2

-- Where there are as many lists as places, and nothing in them.
none_at_first : (all : List (Vec CodePlace)) (count k : ℕ) → lists all ≡ replicate count [] → k < count
    → (k < length all) × (calls_in all (Some k) ≡ [])
none_at_first all count k none lt =
    let long : length all ≡ count =
    sym (length-map all (λ (v : Vec CodePlace). v.items)) ∙ ap length none ∙ length-replicate count [] in (
      omega (arith, lt, long),
      ap (λ (o : Option (List CodePlace)). unwrap_or o []) (sym (slice_get-map (λ (v : Vec CodePlace). v.items) all k))
          ∙ unwrap_or-slice_get (lists all) k [] ∙ ap (λ (l : List (List CodePlace)). get_or l k []) none
          ∙ get_or-replicate count k [] [] lt,
    )

-- A log that is seen whole.
pub each_whole : (near : ℕ → Walk Thread → Type 0) (limit : ℕ) (places : List ℕ) (log : List Entry)
    (first between : StackWatch) → first.stacks.places.items ≡ places
    → lists first.stacks.calls.items ≡ replicate (length places) [] → between.is_short ≡ false → SeesLog meaning_in StacksSee near limit 0 log first between
    → (at seat : ℕ) → seat_of places at ≡ Some seat
    → IsStackAt (near at) (slice_get log at) (calls_at between.stacks at)
each_whole near limit places log first between named none whole sees at seat is =
    let within : seat < length places = (position-Some (λ place. place == at) places seat 0 is).0 in
    let empty = none_at_first first.stacks.calls.items (length places) seat none within in
    let there : seat_of first.stacks.places.items at ≡ Some seat = ap (λ (l : List ℕ). seat_of l at) named ∙ is in
    let at_last : seat_of between.stacks.places.items at ≡ Some seat =
    ap (λ (v : Vec ℕ). seat_of v.items at) (places_along near limit 0 log first between sees) ∙ there in
    let from : at ≡ 0 + at = omega arith in
    subst (λ (o : Option ℕ). IsStackAt (near at) (slice_get log at) (calls_in between.stacks.calls.items o))
    (sym at_last) (along near limit at at seat 0 log first between from there empty.0 whole empty.1 sees)

pub has_each : (m : Parts) (r : RecordParts) (end : EndState) (places : List ℕ) (stacks : EntryStacks)
    → AreStacksOf m r end places stacks → HasEach m r places stacks
has_each m r end places stacks a =
    let run = a.sees in
    let along = run.2.2 in
    let whole : along.0.is_short ≡ false = ap (λ (x : StackWatch). x.is_short) (sym along.2) ∙ a.whole in
    let same : stacks ≡ along.0.stacks = a.filled ∙ ap (λ (x : StackWatch). x.stacks) along.2 in
    let near : ℕ → Walk Thread → Type 0 = CameAlong meaning_in run.0 r.limit r.log in
    record {
      first = run.0;
      begins = run.1;
      each = λ at seat is. subst (λ (x : EntryStacks). IsStackAt (near at) (slice_get r.log at) (calls_at x at))
          (sym same) (each_whole near r.limit places r.log a.first along.0 a.named a.empty whole along.1 at seat is);
    }
