-- Where threads were heard to stand while a run was made, a replay of its record sees them stand.
use Rattle.std.proofs.Common.{◌≡◌, ◌≢◌, ◌⊎◌, ℕ, Bool, map, zero, suc, ◌+◌, ◌<◌, true, List, [], ◌∷◌, ◌++◌, length, take}
use Rattle.std.proofs.Common.{replicate, Option, Some, None, slice_get, slice_set, inl, inr, refl, sym, ap, subst, ◌∙◌}
use Rattle.std.proofs.Common.{arith, append-nil, length-set, length-append}
use Rattle.std.proofs.lemmas.List.{length-map}
use Rattle.std.proofs.lemmas.Bool.{cases_eq}
use Rattle.std.proofs.lemmas.List.{length-replicate}
use Rattle.std.proofs.lemmas.Option.{slice_get_within}
use Rattle.std.specs.Global.{Vec}
use Rattle.allowed_races.specs.declared.allowed.Allowed.{Allowed}
use Rattle.types.specs.declared.event.Event.{Event}
use Rattle.types.specs.declared.event.Event.TheVariants as events
use Rattle.types.specs.declared.event.Question.TheVariants as questions
use Rattle.types.specs.declared.event.Entry.{Entry}
use Rattle.types.specs.declared.parts.Parts.{Parts}
use Rattle.interp_machine.specs.Program.{Program}
use Rattle.interp.specs.Threads.{meaning_in}
use Rattle.interp.specs.declared.place.CodePlace.{CodePlace}
use Rattle.interp.specs.declared.thread.Thread.{Thread}
use Rattle.interp_trait.specs.declared.turn.Turn.{Turn}
use Rattle.interp_trait.specs.declared.turn.Turn.TheVariants as turns
use Rattle.spawn_host.specs.Requests.{Requested}
use Rattle.spawn_host.specs.declared.end.EndState.{EndState}
use Rattle.replay_text.specs.declared.parts.RecordParts.{RecordParts}
use Rattle.replay_walk.specs.declared.walk.Walk.{Walk}
use Rattle.replay_walk.specs.Seen.{Sight, IsShown, SeesBy, SeesLog, SeesNext, CameAlong}
use Rattle.replay_walk.specs.Standing.{SettlesThread}
use Rattle.replay_walk.specs.Walked.{Run, ComesAlong, HasThreads, WalkCame}
use Rattle.replay_walk.proofs.Seen.{log_more, shown_of}
use Rattle.search_scheduled.specs.declared.course.Course.{Course}
use Rattle.search_scheduled.specs.declared.ear.Places.{Places}
use Rattle.search_scheduled.specs.Courses as courses
use Rattle.search_scheduled.specs.Heard.{IsHeard, IsHeardOn, HearsAnswer, HearsSettled, HearsPlace, IsMadeBy, place_in}
use Rattle.search_scheduled.specs.SpareThreads.{HasBegun}
use Rattle.race_history.specs.declared.access.Site.{Site}
use Rattle.show_rows.specs.declared.rows.Row.{Row}
use Rattle.show_rows.specs.declared.rows.Rows.{Rows}
use Rattle.show_rows.specs.Rows.{RowsSee, number_before}
use Rattle.search_scheduled.specs.declared.running.MadeRun.{MadeRun}
use Rattle.search_finds.specs.Finds.{IsFind}
use Rattle.search_races.specs.Heard.{row_heard}
use Rattle.show_races.specs.Races.{Says, SaysOfRun}
use Rattle.show_races.specs.Rows.{AreRowsOf, sites_of}
use Rattle.show_races.specs.Sites.{opening_of}
use Rattle.search_races.proofs.Alike.{sites_same}
use Rattle.search_races.proofs.Stood.{Filled, RowHas, row_of, stands_there, has_set, keeps_set, see_in, see_length}
use Rattle.search_races.proofs.Stood.{see_keeps, see_has, left_in, behind_keeps, behind_is, last_keeps, round_in}
use Rattle.search_races.proofs.Stood.{round_length, with_rows, round_of, round_sees}

-- what stands in a list behind a beginning of it
at_end : {X : Type 0} (xs ys : List X) (y : X) → slice_get (xs ++ y ∷ ys) (length xs) ≡ Some y
at_end [] ys y = refl
at_end (x ∷ xs) ys y = at_end xs ys y

take_beginning : {X : Type 0} (xs ys : List X) → take (length xs) (xs ++ ys) ≡ xs
take_beginning [] ys = refl
take_beginning (x ∷ xs) ys = ap (λ l. x ∷ l) (take_beginning xs ys)

joined : {X : Type 0} (xs ys : List X) (y : X) → (xs ++ y ∷ []) ++ ys ≡ xs ++ y ∷ ys
joined [] ys y = refl
joined (x ∷ xs) ys y = ap (λ l. x ∷ l) (joined xs ys y)

get_old : {X : Type 0} (xs : List X) (y z : X) (j : ℕ) → j ≢ length xs → slice_get (xs ++ y ∷ []) j ≡ Some z → slice_get xs j ≡ Some z
get_old [] y z zero other is = absurd (other refl)
get_old [] y z (suc j) other is = absurd (cc is)
get_old (x ∷ xs) y z zero other is = is
get_old (x ∷ xs) y z (suc j) other is = get_old xs y z j (λ same. other (ap (λ n. suc n) same)) is

get_new : {X : Type 0} (xs : List X) (y z : X) → slice_get (xs ++ y ∷ []) (length xs) ≡ Some z → z ≡ y
get_new xs y z is = let same : Some y ≡ Some z = sym (at_end xs [] y) ∙ is in cc same

-- A thread that is heard has its entry's row: in the rows that a watch comes to by this entry, and where a leave is seen
-- behind them.
record Enters (r : RecordParts) (k : ℕ) (w : Walk Thread) (e : Entry) (after : Walk Thread) (place : CodePlace) (now : Rows) : Type 0 where
  new : Rows
  sees : SeesBy meaning_in RowsSee e.event r.limit k w e true now new
  log : new.log.now ≡ now.log.now
  long : length new.rows.items ≡ length now.rows.items
  keeps : (j : ℕ) (p : CodePlace) → j ≢ k → RowHas now.rows.items j p → RowHas new.rows.items j p
  has : (rows : Filled) → length rows ≡ length now.rows.items
      → ((p : CodePlace) → RowHas new.rows.items k p → RowHas rows k p)
      → RowHas (left_in after.threads.items (Some e) e.event k rows) k place

module _ (r : RecordParts) (k : ℕ) (w : Walk Thread) (e : Entry) (after : Walk Thread) (now : Rows) (came : now.came ≡ k)
    (within : k < length now.rows.items) where
  -- an answer that is taken
  enters_told : (x : Thread) (answer : _) → e.event ≡ events.Told answer → RowHas now.rows.items k (place_in x)
      → Enters r k w e after (place_in x) now
  enters_told x answer is has = record {
    new = now;
    sees = subst (λ (v : Event). SeesBy meaning_in RowsSee v r.limit k w e true now now) (sym is) refl;
    log = refl;
    long = refl;
    keeps = λ j p other h. h;
    has = λ rows long keep. subst (λ (v : Event). RowHas (left_in after.threads.items (Some e) v k rows) k (place_in x)) (sym is)
        (keep (place_in x) has);
  }

  module _ (turn : Turn) (settled : List Thread) (settles : SettlesThread meaning_in w.threads.items e.thread turn settled) (x : Thread)
      (at : slice_get settled e.thread ≡ Some x) where
    -- a leave
    enters_left : e.event ≡ events.Ask questions.Leave → after.threads.items ≡ settled → Enters r k w e after (place_in x) now
    enters_left is same = record {
      new = now;
      sees = subst (λ (v : Event). SeesBy meaning_in RowsSee v r.limit k w e true now now) (sym is)
          (turn, record { settled = settled; settles = settles; tells = refl });
      log = refl;
      long = refl;
      keeps = λ j p other h. h;
      has = λ rows long keep. subst (λ (v : Event). RowHas (left_in after.threads.items (Some e) v k rows) k (place_in x)) (sym is)
          (see_has after.threads.items (Some e) e x k rows refl (ap (λ (l : List Thread). slice_get l e.thread) same ∙ at)
          (omega (arith, within, long)));
    }

    abbrev wanted : Filled
    wanted = slice_set now.rows.items now.came (Some (row_of x (number_before w.memory.bytes e.event)))

    wanted_length : length wanted ≡ length now.rows.items
    wanted_length = length-set now.rows.items now.came (Some (row_of x (number_before w.memory.bytes e.event)))

    abbrev shown : Rows
    shown = with_rows now wanted now.came wanted_length

    shows : RowsSee now (Sight.Wanted e x w.memory) shown
    shows = record {
      log = refl;
      came = refl;
      sets = (row_of x (number_before w.memory.bytes e.event), stands_there x (number_before w.memory.bytes e.event), refl, refl);
    }

    -- another event
    event_by : (event : Event) → e.event ≡ event → turn ≡ turns.Wants event
        → (IsShown meaning_in RowsSee w e now shown → SeesBy meaning_in RowsSee event r.limit k w e true now shown)
        → ((rows : Filled) → left_in after.threads.items (Some e) event k rows ≡ rows)
        → Enters r k w e after (place_in x) now
    event_by event is made sees stays =
        let wants : turn ≡ turns.Wants e.event = made ∙ ap (λ (v : Event). turns.Wants v) (sym is) in
        record {
          new = shown;
          sees = subst (λ (v : Event). SeesBy meaning_in RowsSee v r.limit k w e true now shown) (sym is)
              (sees (shown_of meaning_in RowsSee w e turn w.threads.items settled now now shown refl settles wants refl (x, at, shows)));
          log = refl;
          long = wanted_length;
          keeps = λ j p other h. keeps_set now.rows.items now.came j _ p (λ same. other (same ∙ came)) h;
          has = λ rows long keep.
              let alike : left_in after.threads.items (Some e) e.event k rows ≡ rows =
              subst (λ (v : Event). left_in after.threads.items (Some e) v k rows ≡ rows) (sym is) (stays rows) in
              subst (λ (l : Filled). RowHas l k (place_in x)) (sym alike)
              (keep (place_in x) (subst (λ (n : ℕ). RowHas wanted n (place_in x)) came
              (has_set now.rows.items now.came (row_of x (number_before w.memory.bytes e.event)) (omega (arith, came, within)))));
        }

    enters_made : (event : Event) → e.event ≡ event → IsMadeBy event turn settled after.threads.items
        → Enters r k w e after (place_in x) now
    enters_made (events.Told answer) is made = absurd made
    enters_made (events.Ask questions.Leave) is made = enters_left is made
    enters_made (events.Ask (questions.Wait a b c d)) is made = event_by (events.Ask (questions.Wait a b c d)) is made (λ s. s) (λ rows. refl)
    enters_made (events.Ask (questions.Notify a b)) is made = event_by (events.Ask (questions.Notify a b)) is made (λ s. s) (λ rows. refl)
    enters_made (events.Ask (questions.Spawn a)) is made = event_by (events.Ask (questions.Spawn a)) is made (λ s. s) (λ rows. refl)
    enters_made events.Size is made = event_by events.Size is made (λ s. s) (λ rows. refl)
    enters_made (events.Grow pages) is made = event_by (events.Grow pages) is made (λ s. s) (λ rows. refl)
    enters_made (events.Load a b c) is made = event_by (events.Load a b c) is made (λ s. s) (λ rows. refl)
    enters_made (events.Store a b c d) is made = event_by (events.Store a b c d) is made (λ s. s) (λ rows. refl)
    enters_made (events.Rmw a b c d) is made = event_by (events.Rmw a b c d) is made (λ s. s) (λ rows. refl)
    enters_made (events.Cmpxchg a b c d) is made = event_by (events.Cmpxchg a b c d) is made (λ s. s) (λ rows. refl)

  -- an entry whose thread is heard, where the thread that comes next has its row as it stands
  enters : (old : Places) (heard : Places) → old.hears ≡ true
      → ((x : Thread) → slice_get w.threads.items e.thread ≡ Some x → RowHas now.rows.items k (place_in x))
      → HearsAnswer meaning_in HearsPlace w e old heard ⊎ HearsSettled meaning_in HearsPlace w e after old heard
      → (place : CodePlace) × (heard.places.items ≡ old.places.items ++ place ∷ []) × Enters r k w e after place now
  enters old heard listens next (inl a) = (
    place_in a.thread,
    (a.heard).noted listens,
    enters_told a.thread (a.answer).0 (ap (λ (v : Entry). v.event) (a.answer).1) (next a.thread a.at),
  )
  enters old heard listens next (inr s) = (
    place_in s.thread,
    (s.heard).noted listens,
    enters_made s.turn s.settled s.settles s.thread s.at e.event refl s.made,
  )

-- the walks at which a replay can stand
abbrev AtEach : Course Thread → RecordParts → ℕ → Walk Thread → Type 0
AtEach first r = CameAlong meaning_in first.walk r.limit r.log

-- Of what was heard of a course the rows are so, behind its entries: a watch saw these, and then the walk behind them.
record Told (first : Course Thread) (r : RecordParts) (rows : Rows) (c : Course Thread) (heard : Places) : Type 0 where
  mid : Rows
  sees : SeesLog meaning_in RowsSee (AtEach first r) r.limit 0 c.log.items rows mid
  log : mid.log.now ≡ r.log
  long : length mid.rows.items ≡ length r.log
  count : length heard.places.items ≡ length c.log.items
  has : (j : ℕ) (p : CodePlace) → slice_get heard.places.items j ≡ Some p
      → RowHas (round_of c.walk.threads.items (length c.log.items) mid).rows.items j p

stays : (first : Course Thread) (v : Places) (c : Course Thread) (p : Places) → IsHeard meaning_in HearsPlace first v c p
    → courses.StaysOnItsRuns meaning_in first c
stays first v c p IsHeard.here = λ r came. came
stays first v d q (IsHeard.on c p _ _ heard on) = λ r came. on.runs r (stays first v c p heard r came)

-- who notes a place noted those before it
heard_before : {w : Walk Thread} {e : Entry} {after : Walk Thread} {old new : Places}
    → HearsAnswer meaning_in HearsPlace w e old new ⊎ HearsSettled meaning_in HearsPlace w e after old new → new.hears ≡ true
    → old.hears ≡ true
heard_before (inl a) listens = sym (a.heard).same ∙ listens
heard_before (inr s) listens = sym (s.heard).same ∙ listens

placed : {w : Walk Thread} {e : Entry} {after : Walk Thread} {old new : Places}
    → HearsAnswer meaning_in HearsPlace w e old new ⊎ HearsSettled meaning_in HearsPlace w e after old new → old.hears ≡ true
    → (place : CodePlace) × (new.places.items ≡ old.places.items ++ place ∷ [])
placed (inl a) listens = (place_in a.thread, (a.heard).noted listens)
placed (inr s) listens = (place_in s.thread, (s.heard).noted listens)

-- a place for each entry
counted : (first : Course Thread) (v : Places) (c : Course Thread) (p : Places) → first.log.items ≡ [] → v.places.items ≡ []
    → p.hears ≡ true → IsHeard meaning_in HearsPlace first v c p → length p.places.items ≡ length c.log.items
counted first v c p log nothing listens IsHeard.here =
    ap (λ (l : List CodePlace). length l) nothing ∙ sym (ap (λ (l : List Entry). length l) log)
counted first v c q log nothing listens (IsHeard.on b p _ _ heard on) =
    let before = heard_before on.heard listens in
    let x = placed on.heard before in
    let here = counted first v b p log nothing before heard in
    let more = ap (λ (l : List CodePlace). length l) x.1 ∙ length-append p.places.items (x.0 ∷ []) in
    let longer = ap (λ (l : List Entry). length l) on.log ∙ length-append b.log.items (on.entry ∷ []) in
    omega (arith, here, more, longer)

-- two runs from one walk have one budget
first_of : (xs : List Thread) (p : Program) → HasThreads p (length xs) → (x : Thread) × (slice_get xs 0 ≡ Some x)
first_of [] p (inl count) = absurd (omega (arith, count))
first_of [] p (inr one) = absurd (omega (arith, one.1))
first_of (x ∷ xs) p count = (x, refl)

one_budget : (run other : Run) (w : Walk Thread) → WalkCame meaning_in run [] w → WalkCame meaning_in other [] w
    → other.budget ≡ run.budget
one_budget run other w came came' =
    let x = first_of w.threads.items run.program came.count in
    sym ((came'.standing).alike 0 x.0 x.1).1 ∙ ((came.standing).alike 0 x.0 x.1).1

module _ (m : Parts) (r : RecordParts) (first : Course Thread) (begun : HasBegun meaning_in m r first) (v : Places) where
  begins : WalkCame meaning_in begun.run [] first.walk
  begins = subst (λ (l : List Entry). WalkCame meaning_in begun.run l first.walk) begun.log (begun.came).walk

  came_first : (run : Run) → WalkCame meaning_in run [] first.walk → run.limit ≡ r.limit → courses.CameAlong meaning_in run first
  came_first run came limit = record {
    walk = subst (λ (l : List Entry). WalkCame meaning_in run l first.walk) (sym begun.log) came;
    budget = one_budget begun.run run first.walk begins came ∙ (begun.came).budget;
    limit = limit ∙ (sym begun.limit ∙ (begun.came).limit);
  }

  -- a course that goes on from there stands where a replay does behind as many entries
  at_each : (c : Course Thread) (p : Places) (rest : List Entry) → r.log ≡ c.log.items ++ rest → IsHeard meaning_in HearsPlace first v c p
      → AtEach first r (length c.log.items) c.walk
  at_each c p rest is heard = λ run came limit.
      let walk = (stays first v c p heard run (came_first run came limit)).walk in
      subst (λ (l : List Entry). WalkCame meaning_in run l c.walk)
      (sym (ap (λ (l : List Entry). take (length c.log.items) l) is ∙ take_beginning c.log.items rest)) walk

  comes_along : (c : Course Thread) (p : Places) → r.log ≡ c.log.items → IsHeard meaning_in HearsPlace first v c p
      → ComesAlong meaning_in first.walk r.limit r.log c.walk
  comes_along c p is heard = λ run came limit.
      subst (λ (l : List Entry). WalkCame meaning_in run l c.walk) (sym is)
      (stays first v c p heard run (came_first run came limit)).walk

  -- the row of the next entry is where its thread stands
  next_has : (c : Course Thread) (mid : Rows) (e : Entry) (x : Thread) → mid.log.now ≡ r.log → length mid.rows.items ≡ length r.log
      → slice_get r.log (length c.log.items) ≡ Some e → slice_get c.walk.threads.items e.thread ≡ Some x
      → RowHas (round_of c.walk.threads.items (length c.log.items) mid).rows.items (length c.log.items) (place_in x)
  next_has c mid e x log long is at =
      let k = length c.log.items in
      let within = slice_get_within r.log k e is in
      last_keeps c.walk.threads.items mid.log.now k k (see_in c.walk.threads.items (slice_get mid.log.now k) k mid.rows.items) (place_in x)
      (λ same. omega (arith, same))
      (see_has c.walk.threads.items (slice_get mid.log.now k) e x k mid.rows.items (ap (λ (l : List Entry). slice_get l k) log ∙ is) at
      (omega (arith, long, within)))

  module _ (c d : Course Thread) (p q : Places) (rows : Rows) (on : IsHeardOn meaning_in HearsPlace c p d q) (rest : List Entry)
      (is : r.log ≡ d.log.items ++ rest) (heard : IsHeard meaning_in HearsPlace first v c p) (t : Told first r rows c p)
      (place : CodePlace) (noted : q.places.items ≡ p.places.items ++ place ∷ [])
      (en : Enters r (length c.log.items) c.walk on.entry d.walk place (round_of c.walk.threads.items (length c.log.items) t.mid)) where
    abbrev k : ℕ
    k = length c.log.items

    abbrev now : Rows
    now = round_of c.walk.threads.items k t.mid

    whole : r.log ≡ c.log.items ++ on.entry ∷ rest
    whole = is ∙ (ap (λ (l : List Entry). l ++ rest) on.log ∙ joined c.log.items rest on.entry)

    entry_at : slice_get r.log k ≡ Some on.entry
    entry_at = ap (λ (l : List Entry). slice_get l k) whole ∙ at_end c.log.items rest on.entry

    one_more : length d.log.items ≡ suc k
    one_more = ap (λ (l : List Entry). length l) on.log ∙ (length-append c.log.items (on.entry ∷ []) ∙ omega arith)

    long_now : length now.rows.items ≡ length r.log
    long_now = round_length c.walk.threads.items t.mid.log.now k t.mid.rows.items ∙ t.long

    sees_next : SeesNext meaning_in RowsSee (AtEach first r) r.limit k on.entry true t.mid en.new
    sees_next = record {
      walk = c.walk;
      stands = at_each c p (on.entry ∷ rest) whole heard;
      between = now;
      came = round_sees c.walk.threads.items k t.mid;
      entry = en.sees;
    }

    abbrev then_in : Filled
    then_in = see_in d.walk.threads.items (slice_get en.new.log.now (suc k)) (suc k) en.new.rows.items

    long_then : length then_in ≡ length now.rows.items
    long_then = see_length d.walk.threads.items (slice_get en.new.log.now (suc k)) (suc k) en.new.rows.items ∙ en.long

    then_keeps : (j : ℕ) (z : CodePlace) → j ≢ suc k → RowHas en.new.rows.items j z → RowHas then_in j z
    then_keeps j z other h =
        see_keeps d.walk.threads.items (slice_get en.new.log.now (suc k)) (suc k) j en.new.rows.items z other h

    same_log : en.new.log.now ≡ r.log
    same_log = en.log ∙ t.log

    -- it has one itself
    has_here : RowHas (round_in d.walk.threads.items en.new.log.now (suc k) en.new.rows.items) k place
    has_here =
        behind_is d.walk.threads.items (slice_get en.new.log.now k) on.entry k then_in place
        (ap (λ (l : List Entry). slice_get l k) same_log ∙ entry_at)
        (en.has then_in long_then (λ z h. then_keeps k z (λ same. omega (arith, same)) h))

    -- and those of the entries before it stay
    has_old : (j : ℕ) (z : CodePlace) → j < k → RowHas now.rows.items j z
        → RowHas (round_in d.walk.threads.items en.new.log.now (suc k) en.new.rows.items) j z
    has_old j z lt h =
        behind_keeps d.walk.threads.items (slice_get en.new.log.now k) k j then_in z (λ same. omega (arith, lt, same))
        (then_keeps j z (λ same. omega (arith, lt, same)) (en.keeps j z (λ same. omega (arith, lt, same)) h))

    has_by : (j : ℕ) (z : CodePlace) → slice_get (p.places.items ++ place ∷ []) j ≡ Some z → (j ≡ k) ⊎ (j ≡ k → ⊥)
        → RowHas (round_in d.walk.threads.items en.new.log.now (suc k) en.new.rows.items) j z
    has_by j z got (inl same) =
        let at : j ≡ length p.places.items = same ∙ sym t.count in
        let is : z ≡ place =
        get_new p.places.items place z (subst (λ (n : ℕ). slice_get (p.places.items ++ place ∷ []) n ≡ Some z) at got) in
        subst (λ (n : ℕ). RowHas (round_in d.walk.threads.items en.new.log.now (suc k) en.new.rows.items) n z) (sym same)
        (subst (λ (x : CodePlace). RowHas (round_in d.walk.threads.items en.new.log.now (suc k) en.new.rows.items) k x) (sym is) has_here)
    has_by j z got (inr other) =
        let old = get_old p.places.items place z j (λ same. other (same ∙ t.count)) got in
        let within = slice_get_within p.places.items j z old in
        has_old j z (omega (arith, within, t.count)) (t.has j z old)

    -- the same one entry further
    told_on : Told first r rows d q
    told_on = record {
      mid = en.new;
      sees = subst (λ (l : List Entry). SeesLog meaning_in RowsSee (AtEach first r) r.limit 0 l rows en.new) (sym on.log)
          (log_more meaning_in RowsSee (AtEach first r) r.limit c.log.items 0 k on.entry rows t.mid en.new (omega arith) t.sees sees_next);
      log = same_log;
      long = en.long ∙ long_now;
      count = ap (λ (l : List CodePlace). length l) noted ∙ (length-append p.places.items (place ∷ [])
          ∙ (ap (λ (n : ℕ). n + 1) t.count ∙ (omega arith ∙ sym one_more)));
      has = λ j z got. subst (λ (n : ℕ). RowHas (round_in d.walk.threads.items en.new.log.now n en.new.rows.items) j z) (sym one_more)
          (has_by j z (subst (λ (l : List CodePlace). slice_get l j ≡ Some z) noted got) (cases_eq j k));
    }

  -- the first rows
  abbrev pub first_rows : (d : Vec (Option Row)) → length d.items ≡ length r.log → Rows
  first_rows d long = record {
    log = record { ref_ptr = (0, 0); now = r.log };
    rows = record {
      ptr = d.ptr;
      len = d.len;
      cap = d.cap;
      alloc = d.alloc;
      items = replicate (length r.log) None;
      ok = (d.ok.0 ∙ (long ∙ sym (length-replicate (length r.log) None)), d.ok.1);
      small = d.small;
    };
    came = 0;
  }

  module _ (d : Vec (Option Row)) (long : length d.items ≡ length r.log) (nothing : v.places.items ≡ []) where
    -- what was heard of a course
    told : (c : Course Thread) (p : Places) (rest : List Entry) → r.log ≡ c.log.items ++ rest → p.hears ≡ true
        → IsHeard meaning_in HearsPlace first v c p → Told first r (first_rows d long) c p
    told c p rest is listens IsHeard.here = record {
      mid = first_rows d long;
      sees = subst (λ (l : List Entry). SeesLog meaning_in RowsSee (AtEach first r) r.limit 0 l (first_rows d long) (first_rows d long))
          (sym begun.log) refl;
      log = refl;
      long = length-replicate (length r.log) None;
      count = ap (λ (l : List CodePlace). length l) nothing ∙ sym (ap (λ (l : List Entry). length l) begun.log);
      has = λ j z got.
          let none : slice_get [] j ≡ Some z = subst (λ (l : List CodePlace). slice_get l j ≡ Some z) nothing got in absurd (cc none);
    }
    told c q rest is listens (IsHeard.on b p _ _ heard on) =
        let before = heard_before on.heard listens in
        let whole : r.log ≡ b.log.items ++ on.entry ∷ rest =
        is ∙ (ap (λ (l : List Entry). l ++ rest) on.log ∙ joined b.log.items rest on.entry) in
        let t = told b p (on.entry ∷ rest) whole before heard in
        let k = length b.log.items in
        let at : slice_get r.log k ≡ Some on.entry =
        ap (λ (l : List Entry). slice_get l k) whole ∙ at_end b.log.items rest on.entry in
        let within = slice_get_within r.log k on.entry at in
        let now = round_of b.walk.threads.items k t.mid in
        let now_long = round_length b.walk.threads.items t.mid.log.now k t.mid.rows.items in
        let e = enters r k b.walk on.entry c.walk now refl (omega (arith, within, now_long, t.long)) p q before
        (λ x there. next_has b t.mid on.entry x t.log t.long at there) on.heard in
        told_on b c p q (first_rows d long) on rest is heard t e.0 e.1 e.2

    -- a replay of the record sees the same places
    pub rows_heard : (end : EndState) (c : Course Thread) (p : Places) → r.log ≡ c.log.items → p.hears ≡ true
        → IsHeard meaning_in HearsPlace first v c p
        → (rows : Filled) × AreRowsOf m r end rows × ((j : ℕ) (z : CodePlace) → slice_get p.places.items j ≡ Some z → RowHas rows j z)
        × (length p.places.items ≡ length r.log)
    rows_heard end c p is listens heard =
        let t = told c p [] (is ∙ sym (append-nil c.log.items)) listens heard in
        let count : length c.log.items ≡ length r.log = sym (ap (λ (l : List Entry). length l) is) in
        let now = round_of c.walk.threads.items (length c.log.items) t.mid in (
          now.rows.items,
          record {
            first = first_rows d long;
            last = now;
            log = refl;
            empty = refl;
            sees = (
              first.walk,
              record {
                run = begun.run;
                beginning = begun.beginning;
                same = begun.same;
                limit = begun.limit;
                came = begins;
              },
              (
                c.walk,
                comes_along c p is heard,
                (
                  t.mid,
                  subst (λ (l : List Entry). SeesLog meaning_in RowsSee (AtEach first r) r.limit 0 l (first_rows d long) t.mid) (sym is) t.sees,
                  subst (λ (n : ℕ). RowsSee t.mid (Sight.Came n c.walk) now) count (round_sees c.walk.threads.items (length c.log.items) t.mid),
                ),
              ),
            );
            filled = refl;
          },
          t.has,
          t.count ∙ count,
        )

-- what is said of a made run's races by the places that were heard
pub heard_so : (allowed : Allowed) (q : Requested) (limit : ℕ) (made : MadeRun) (d : Vec (Option Row)) → IsFind q limit made → made.heard.hears ≡ true
    → d.items ≡ map row_heard made.heard.places.items → (is : Bool)
    → Says made.record.log (sites_of allowed q.parts made.record (map row_heard made.heard.places.items)) (opening_of q.parts) is
    → SaysOfRun allowed q.parts made.record is
heard_so allowed q limit made d find listens alike is says =
    let h = find.heard in
    let begun = h.begun made.record find.of_call in
    let count = counted h.first h.none h.last made.heard begun.log h.empty listens h.is_heard in
    let log = ap (λ (l : List Entry). length l) h.log in
    let items = ap (λ (l : List (Option Row)). length l) alike in
    let mapped = length-map made.heard.places.items row_heard in
    let long : length d.items ≡ length made.record.log = omega (arith, count, log, items, mapped) in
    let x = rows_heard q.parts made.record h.first begun h.none d long h.empty made.end h.last made.heard h.log listens h.is_heard in
    record {
      rows = x.0;
      end = made.end;
      run = find.run;
      rows_are = x.1;
      says = subst (λ (l : List Site). Says made.record.log l (opening_of q.parts) is)
          (sym (sites_same allowed q.parts made.record.log x.0 made.heard.places.items x.2 (length made.record.log) (omega (arith, x.3)))) says;
    }
