-- What a search keeps.
use Rattle.std.specs.Prelude.{◌≡◌, ◌==◌, ◌^◌, ◌<◌, ◌≤◌, ◌⊎◌, ◌||◌, ℕ, zero, suc, Bool, true, false, List, [], ◌∷◌, ◌++◌, length}
use Rattle.std.specs.Prelude.{Contains, slice_get, get_or, Option, Some, IfSome, refl, if◌then◌else◌}
use Rattle.std.proofs.Common.{ap, subst, sym, ◌∙◌, inl, inr, arith, true≢false, length-append, append_assoc}
use Rattle.std.proofs.lemmas.List.Elements.{Contains-append_left, Contains-push, Contains-push_cases}
use Rattle.std.proofs.lemmas.List.Elements.{Contains-append_right, Contains-append_cases, filter-append}
use Rattle.std.proofs.lemmas.List.{append-nil}
use Rattle.std.proofs.lemmas.Slice.Zip.{all_zipped_more}
use Rattle.std.proofs.lemmas.Bool.{ne_eqb, eq-eqb, cond-true, cond-false}
use Rattle.std.proofs.lemmas.Option.{slice_get_within, get_or_from_slice_get, slice_get-get_or, none-some}
use Rattle.std.specs.List.{list_any}
use Rattle.indexmap.specs.IndexSet.{insert_key}
use Rattle.search_graph.specs.Paths.{Reaches}
use Rattle.search_graph.specs.Worlds.{CanStep}
use Rattle.search_graph.specs.declared.graph.Move.{Move}
use Rattle.search_reach.specs.declared.explores.NextState.{NextState}
use Rattle.search_reach.specs.Search.{StepSystem, Steps, StandsFor, Covers, Comes, AreNext, IsFirst, IsMet, IsSound, AllGetStuck, CanGetStuck}
use Rattle.search_reach.specs.Explored.{Gains, moves_from, HasAt, IsNoted, AreNoted, Notes, IsGoneOn, Explored, ExploredTo}
use Rattle.search_reach.proofs.Paths.{stays, one_step, onward, by_others}

pub if_some_at : {X : Type 0} (P : X → Type 0) (o : Option X) (x : X) → o ≡ Some x → IfSome o P → P x
if_some_at P o x e h = subst (λ q. IfSome q P) e h

-- One list begins with the other.
pub record Begins {S : Type 0} (ks ls : List S) : Type 0 where
  pub more : List S
  pub is : ls ≡ ks ++ more

module _ {S : Type 0} where
  pub Contains-head : (x : S) (xs : List S) → Contains (x ∷ xs) x
  Contains-head x xs = (0, omega arith, refl)

  pub Contains-tail : (x s : S) (xs : List S) → Contains xs s → Contains (x ∷ xs) s
  Contains-tail x s xs h = Contains-append_right (x ∷ []) xs s h

  pub Begins-self : (ks : List S) → Begins ks ks
  Begins-self ks = record { more = []; is = sym (append-nil ks) }

  Begins-then : (ks ls ms : List S) → Begins ks ls → Begins ls ms → Begins ks ms
  Begins-then ks ls ms a b = record { more = a.more ++ b.more; is = b.is ∙ ap (λ x. x ++ b.more) a.is ∙ append_assoc ks a.more b.more }

  pub Contains-longer : (ks ls : List S) (s : S) → Begins ks ls → Contains ks s → Contains ls s
  Contains-longer ks ls s b h = subst (λ x. Contains x s) (sym b.is) (Contains-append_left ks b.more s h)

  pub length-longer : (ks ls : List S) → Begins ks ls → length ks ≤ length ls
  length-longer ks ls b = omega (arith, ap length b.is, length-append ks b.more)

module _ {S : Type 0} (eq : S → S → Bool) where
  -- A key that the set has is there as an equal one.
  pub found : (ks : List S) (k : S) → list_any (eq k) ks ≡ true → (x : S) × Contains ks x × (eq k x ≡ true)
  found [] k h = absurd (true≢false (sym h))
  found (y ∷ ks) k h = by (eq k y) refl (λ t. found ks k t)
    where
      by : (b : Bool) → eq k y ≡ b → (list_any (eq k) ks ≡ true → (x : S) × Contains ks x × (eq k x ≡ true)) → (x : S) × Contains (y ∷ ks) x × (eq k x ≡ true)
      by true e rest = (y, Contains-head y ks, e)
      by false e rest =
          let t : list_any (eq k) ks ≡ true = sym (ap (λ c. c || list_any (eq k) ks) e) ∙ h in
          let r = rest t in
          (r.0, Contains-tail y r.0 ks r.1, r.2)

  -- An insertion keeps the keys, and has an equal one of the new.
  pub Begins-insert_key : (ks : List S) (k : S) → Begins ks (insert_key eq ks k)
  Begins-insert_key ks k = by (list_any (eq k) ks)
    where
      by : (b : Bool) → Begins ks (if b then ks else ks ++ k ∷ [])
      by true = Begins-self ks
      by false = record { more = k ∷ []; is = refl }

  -- What holds of the keys and of the new ones.
  pub holds-insert_key : (P : S → Type 0) (ks : List S) (k : S) → ((s : S) → Contains ks s → P s) → P k → (s : S) → Contains (insert_key eq ks k) s → P s
  holds-insert_key P ks k h p s = by (list_any (eq k) ks)
    where
      last : Contains ks s ⊎ (k ≡ s) → P s
      last (inl c) = h s c
      last (inr e) = subst P e p

      by : (b : Bool) → Contains (if b then ks else ks ++ k ∷ []) s → P s
      by true c = h s c
      by false c = last (Contains-push_cases ks k s c)

-- the first keys are the first of more
slice_get_front : {A : Type 0} (ks more : List A) (i : ℕ) (x : A) → slice_get ks i ≡ Some x → slice_get (ks ++ more) i ≡ Some x
slice_get_front [] more i x h = absurd (none-some x h)
slice_get_front (k ∷ ks) more zero x h = h
slice_get_front (k ∷ ks) more (suc i) x h = slice_get_front ks more i x h

pub get_longer : {A : Type 0} (ks ls : List A) (i : ℕ) (x : A) → Begins ks ls → slice_get ks i ≡ Some x → slice_get ls i ≡ Some x
get_longer ks ls i x b h = ap (λ l. slice_get l i) b.is ∙ slice_get_front ks b.more i x h

pub here : {A : Type 0} (ks : List A) (i : ℕ) (x : A) → slice_get ks i ≡ Some x → Contains ks x
here ks i x at = (i, slice_get_within ks i x at, get_or_from_slice_get ks i x x at)

-- which of more stand at the first places
pub get_shorter : {A : Type 0} (ks ls : List A) (i : ℕ) (x : A) → Begins ks ls → i < length ks → slice_get ls i ≡ Some x → slice_get ks i ≡ Some x
get_shorter ks ls i x b within h =
    let here : slice_get ks i ≡ Some (get_or ks i x) = slice_get-get_or ks i x within in
    let there : slice_get ls i ≡ Some (get_or ks i x) = get_longer ks ls i (get_or ks i x) b here in
    here ∙ (sym there ∙ h)

pub Gains-begins : {S : Type 0} (ks ls : List S) (xs : List (NextState S)) → Gains ks xs ls → Begins ks ls
Gains-begins ks ls xs g = record { more = g.more; is = g.is }

module _ {S : Type 0} (eq : S → S → Bool) where
  pub gains-none : (ks : List S) → Gains ks [] ks
  gains-none ks = record { more = []; is = sym (append-nil ks); among = λ s c. absurd (omega (arith, c.1)) }

  -- one more is inserted
  pub gains-more : (ks ls : List S) (xs : List (NextState S)) (x : NextState S) → Gains ks xs ls → Gains ks (xs ++ x ∷ []) (insert_key eq ls x.state)
  gains-more ks ls xs x g = by (list_any (eq x.state) ls)
    where
      before : (s : S) → Contains g.more s → (y : NextState S) × Contains (xs ++ x ∷ []) y × (y.state ≡ s)
      before s c = let f = g.among s c in (f.0, Contains-append_left xs (x ∷ []) f.0 f.1, f.2)

      last : (s : S) → Contains g.more s ⊎ (x.state ≡ s) → (y : NextState S) × Contains (xs ++ x ∷ []) y × (y.state ≡ s)
      last s (inl c) = before s c
      last s (inr e) = (x, Contains-push xs x, e)

      by : (b : Bool) → Gains ks (xs ++ x ∷ []) (if b then ls else ls ++ x.state ∷ [])
      by true = record { more = g.more; is = g.is; among = before }
      by false = record {
        more = g.more ++ x.state ∷ [];
        is = ap (λ l. l ++ x.state ∷ []) g.is ∙ append_assoc ks g.more (x.state ∷ []);
        among = λ s c. last s (Contains-push_cases g.more x.state s c);
      }

  has_at_longer : (ks ls : List S) (i : ℕ) (s : S) → Begins ks ls → HasAt eq ks i s → HasAt eq ls i s
  has_at_longer ks ls i s b h = record { key = h.key; at = get_longer ks ls i h.key b h.at; is = h.is }

  pub noted-longer : (ks ls : List S) (at : ℕ) (xs : List (NextState S)) (ms : List Move) → Begins ks ls → AreNoted eq ks at xs ms → AreNoted eq ls at xs ms
  noted-longer ks ls at [] [] b h = tt
  noted-longer ks ls at [] (m ∷ ms) b h = h
  noted-longer ks ls at (x ∷ xs) [] b h = h
  noted-longer ks ls at (x ∷ xs) (m ∷ ms) b h = (
    record { from = (h.0).from; thread = (h.0).thread; next = has_at_longer ks ls m.next x.state b (h.0).next },
    noted-longer ks ls at xs ms b h.1,
  )

  pub notes-none : (ks : List S) (at : ℕ) (moves : List Move) → Notes eq ks at [] moves moves
  notes-none ks at moves = record { new = []; is = sym (append-nil moves); are = tt }

  -- the move to one more
  pub notes-more : (ks : List S) (at : ℕ) (xs : List (NextState S)) (x : NextState S) (before after : List Move) (index : ℕ)
      → Notes eq ks at xs before after → HasAt eq (insert_key eq ks x.state) index x.state
      → Notes eq (insert_key eq ks x.state) at (xs ++ x ∷ []) before (after ++ record { from = at; thread = x.thread; next = index } ∷ [])
  notes-more ks at xs x before after index n h =
      let ls = insert_key eq ks x.state in
      let m : Move = record { from = at; thread = x.thread; next = index } in
      record {
        new = n.new ++ m ∷ [];
        is = ap (λ l. l ++ m ∷ []) n.is ∙ append_assoc before n.new (m ∷ []);
        are = all_zipped_more (IsNoted eq ls at) xs n.new x m (noted-longer ks ls at xs n.new (Begins-insert_key eq ks x.state) n.are)
            (record { from = refl; thread = refl; next = h });
      }

  -- the same, as the code has it
  pub inserted-noted : (ks ls : List S) (at : ℕ) (xs : List (NextState S)) (x : NextState S) (before between after : List Move) (index number : ℕ)
      → after ≡ between ++ record { from = at; thread = x.thread; next = number } ∷ []
      → ls ≡ insert_key eq ks x.state → (s : S) × (slice_get ls index ≡ Some s) × (eq x.state s ≡ true)
      → (length ks < 2 ^ 32 → Notes eq ks at xs before between) → length ls < 2 ^ 32 → (length ls < 2 ^ 32 → index < length ls → number ≡ index)
      → Notes eq ls at (xs ++ x ∷ []) before after
  inserted-noted ks ls at xs x before between after index number pushed inserted stored notes few is =
      let long = length-longer ks (insert_key eq ks x.state) (Begins-insert_key eq ks x.state) in
      let within = slice_get_within ls index stored.0 stored.1 in
      let same : number ≡ index = is few within in
      let m : ℕ → Move = λ (n : ℕ). record { from = at; thread = x.thread; next = n } in
      let old = notes (let e = ap length inserted in omega (arith, long, e, few)) in
      let new : Notes eq (insert_key eq ks x.state) at (xs ++ x ∷ []) before (between ++ m index ∷ []) =
      notes-more ks at xs x before between index old
      (record { key = stored.0; at = ap (λ l. slice_get l index) (sym inserted) ∙ stored.1; is = stored.2 }) in
      subst (λ l. Notes eq l at (xs ++ x ∷ []) before after) (sym inserted)
      (subst (λ l. Notes eq (insert_key eq ks x.state) at (xs ++ x ∷ []) before l) (sym (pushed ∙ ap (λ (n : ℕ). between ++ m n ∷ []) same)) new)

-- the moves from a state
pub from-none : (at : ℕ) (ms : List Move) → ((m : Move) → Contains ms m → m.from ≡ at → ⊥) → moves_from at ms ≡ []
from-none at [] h = refl
from-none at (m ∷ ms) h =
    cond-false (m.from == at) (m ∷ moves_from at ms) (moves_from at ms) (ne_eqb m.from at (h m (Contains-head m ms)))
    ∙ from-none at ms (λ n c. h n (Contains-tail m n ms c))

pub from-all : (at : ℕ) (ms : List Move) → ((m : Move) → Contains ms m → m.from ≡ at) → moves_from at ms ≡ ms
from-all at [] h = refl
from-all at (m ∷ ms) h =
    cond-true (m.from == at) (m ∷ moves_from at ms) (moves_from at ms) (eq-eqb m.from at (h m (Contains-head m ms)))
    ∙ ap (λ l. m ∷ l) (from-all at ms (λ n c. h n (Contains-tail m n ms c)))

module _ {S : Type 0} (eq : S → S → Bool) (ks : List S) (at : ℕ) where
  -- each is from the state, and leads to one of them
  pub noted-each : (xs : List (NextState S)) (ms : List Move) → AreNoted eq ks at xs ms → (m : Move) → Contains ms m
      → (x : NextState S) × Contains xs x × IsNoted eq ks at x m
  noted-each [] [] h m c = absurd (omega (arith, c.1))
  noted-each [] (n ∷ ms) h m c = absurd h
  noted-each (x ∷ xs) [] h m c = absurd h
  noted-each (x ∷ xs) (n ∷ ms) h m c = by (Contains-append_cases (n ∷ []) ms m c) (λ d. noted-each xs ms h.1 m d)
    where
      head : Contains [] m ⊎ (n ≡ m) → (y : NextState S) × Contains (x ∷ xs) y × IsNoted eq ks at y m
      head (inl d) = absurd (omega (arith, d.1))
      head (inr e) = (x, Contains-head x xs, subst (λ v. IsNoted eq ks at x v) e h.0)

      by : Contains (n ∷ []) m ⊎ Contains ms m → (Contains ms m → (y : NextState S) × Contains xs y × IsNoted eq ks at y m)
          → (y : NextState S) × Contains (x ∷ xs) y × IsNoted eq ks at y m
      by (inl d) rest = head (Contains-push_cases [] n m d)
      by (inr d) rest = let r = rest d in (r.0, Contains-tail x r.0 xs r.1, r.2)

  -- and there is one to each
  pub noted-all : (xs : List (NextState S)) (ms : List Move) → AreNoted eq ks at xs ms → (x : NextState S) → Contains xs x
      → (m : Move) × Contains ms m × IsNoted eq ks at x m
  noted-all [] ms h x c = absurd (omega (arith, c.1))
  noted-all (y ∷ xs) [] h x c = absurd h
  noted-all (y ∷ xs) (n ∷ ms) h x c = by (Contains-append_cases (y ∷ []) xs x c) (λ d. noted-all xs ms h.1 x d)
    where
      head : Contains [] x ⊎ (y ≡ x) → (m : Move) × Contains (n ∷ ms) m × IsNoted eq ks at x m
      head (inl d) = absurd (omega (arith, d.1))
      head (inr e) = (n, Contains-head n ms, subst (λ v. IsNoted eq ks at v n) e h.0)

      by : Contains (y ∷ []) x ⊎ Contains xs x → (Contains xs x → (m : Move) × Contains ms m × IsNoted eq ks at x m)
          → (m : Move) × Contains (n ∷ ms) m × IsNoted eq ks at x m
      by (inl d) rest = head (Contains-push_cases [] y x d)
      by (inr d) rest = let r = rest d in (r.0, Contains-tail n r.0 ms r.1, r.2)

module _ {S W E : Type 0} (eq : S → S → Bool) (k : StepSystem S W E) where
  covers-longer : (ks ls : List S) (w : W) → Begins ks ls → Covers k ks w → Covers k ls w
  covers-longer ks ls w b c = record { state = c.state; among = Contains-longer ks ls c.state b c.among; is = c.is }

  -- before the first state is gone on from
  pub explored-first : (s : S) → IsFirst k s → ExploredTo k eq (s ∷ []) [] 0
  explored-first s f = record {
    begun = λ w b. record { state = s; among = Contains-head s []; is = f.all w b };
    gone_on = λ j x h. absurd (omega (arith, h));
    from = λ m c. absurd (omega (arith, c.1));
    sound = λ x c. subst (IsMet k) (only x c) met;
  }
    where
      met : IsMet k s
      met = record { from = f.one; begun = f.begun; comes = record { end = f.one; path = stays (Steps k) f.one; is = f.all f.one f.begun } }

      only : (x : S) → Contains (s ∷ []) x → s ≡ x
      only x c = by (Contains-push_cases [] s x c)
        where
          by : Contains [] x ⊎ (s ≡ x) → s ≡ x
          by (inl d) = absurd (omega (arith, d.1))
          by (inr e) = e

  -- what threads come to that can go on can be reached
  pub can_reach : (w z : W) → Reaches (CanStep k.worlds) w z → Reaches (Steps k) w z
  can_reach = by_others (CanStep k.worlds) (Steps k) (λ w z s. one_step (Steps k) w z (s.thread, s.is))

  pub comes-next : (s : S) (xs : List (NextState S)) → AreNext k s xs → (w : W) → StandsFor k s w → (x : NextState S) → Contains xs x → Comes k w x.state
  comes-next s xs n w st x c =
      let r = (n.orderly).settles w st in
      let by = n.comes r.0 r.2 x c in
      let one = one_step (Steps k) r.0 by.second (x.thread, by.is) in
      let on = onward (Steps k) r.0 by.second by.end one (can_reach by.second by.end by.path) in
      record { end = by.end; path = onward (Steps k) w r.0 by.end (can_reach w r.0 r.1) on; is = (λ (n : ℕ). 0, by.rest) }

  met-next : (s : S) (xs : List (NextState S)) → AreNext k s xs → IsMet k s → (x : NextState S) → Contains xs x → IsMet k x.state
  met-next s xs n m x c =
      let r = comes-next s xs n m.comes.end m.comes.is x c in
      record { from = m.from; begun = m.begun; comes = record { end = r.end; path = onward (Steps k) m.from m.comes.end r.end m.comes.path r.path; is = r.is } }

  -- each state that is gained can be met
  pub sound-more : (ks ls : List S) (i : ℕ) (s : S) (xs : List (NextState S)) → IsSound k ks → slice_get ks i ≡ Some s → AreNext k s xs → Gains ks xs ls
      → IsSound k ls
  sound-more ks ls i s xs sound at n g x c = by (Contains-append_cases ks g.more x (subst (λ l. Contains l x) g.is c))
    where
      by : Contains ks x ⊎ Contains g.more x → IsMet k x
      by (inl d) = sound x d
      by (inr d) = let f = g.among x d in subst (IsMet k) f.2 (met-next s xs n (sound s (here ks i s at)) f.0 f.1)

  -- the same places were gone on from
  pub explored-alike : (ks : List S) (moves : List Move) (gone after : ℕ → Type 0) → ((j : ℕ) → j < length ks → gone j → after j)
      → ((j : ℕ) → j < length ks → after j → gone j) → Explored k eq ks moves gone → Explored k eq ks moves after
  explored-alike ks moves gone after forth back e = record {
    begun = e.begun;
    gone_on = λ j s h at. e.gone_on j s (back j (slice_get_within ks j s at) h) at;
    from = λ m c. (let f = e.from m c in (forth m.from f.1 f.0, f.1, f.2));
    sound = e.sound;
  }

  -- one more is gone on from, which wasn't before
  module _ (ks ls : List S) (xs : List (NextState S)) (moves after : List Move) (i : ℕ) (s : S) (gone : ℕ → Type 0) (e : Explored k eq ks moves gone)
      (before : gone i → ⊥) (at : slice_get ks i ≡ Some s) (n : AreNext k s xs) (g : Gains ks xs ls) (noted : Notes eq ls i xs moves after) where
    inside : i < length ks
    inside = slice_get_within ks i s at

    begins : Begins ks ls
    begins = Gains-begins ks ls xs g

    long : length ks ≤ length ls
    long = length-longer ks ls begins

    -- the moves from the others, and from this one
    new_from : (m : Move) → Contains noted.new m → m.from ≡ i
    new_from m c = (noted-each eq ls i xs noted.new noted.are m c).2.from

    split : (j : ℕ) → moves_from j after ≡ moves_from j moves ++ moves_from j noted.new
    split j = ap (moves_from j) noted.is ∙ filter-append (λ (m : Move). m.from == j) moves noted.new

    others : (j : ℕ) → (j ≡ i → ⊥) → moves_from j after ≡ moves_from j moves
    others j other =
        split j ∙ ap (λ l. moves_from j moves ++ l) (from-none j noted.new (λ m c same. other (sym same ∙ new_from m c)))
        ∙ append-nil (moves_from j moves)

    this : moves_from i after ≡ noted.new
    this =
        split i ∙ ap (λ l. l ++ moves_from i noted.new) (from-none i moves (λ m c same. before (subst gone same (e.from m c).0)))
        ∙ from-all i noted.new new_from

    here-gone : (j : ℕ) (x : S) → i ≡ j → slice_get ls j ≡ Some x → IsGoneOn k eq ls after j x
    here-gone j x same there =
        let here : slice_get ls i ≡ Some s = get_longer ks ls i s begins at in
        let is : s ≡ x = cc (same, here, there) in
        record {
          next = xs;
          are = subst (λ v. AreNext k v xs) is n;
          noted = subst (λ v. AreNoted eq ls v xs (moves_from v after)) same (subst (λ l. AreNoted eq ls i xs l) (sym this) noted.are);
        }

    still-gone : (j : ℕ) (x : S) → gone j → j < length ks → slice_get ls j ≡ Some x → IsGoneOn k eq ls after j x
    still-gone j x h low there =
        let old = e.gone_on j x h (get_shorter ks ls j x begins low there) in
        record {
          next = old.next;
          are = old.are;
          noted = subst (λ l. AreNoted eq ls j old.next l) (sym (others j (λ same. before (subst gone same h))))
              (noted-longer eq ks ls j old.next (moves_from j moves) begins old.noted);
        }

    module _ (now : ℕ → Type 0) (which : (j : ℕ) → j < length ls → now j → (gone j × (j < length ks)) ⊎ (i ≡ j))
        (kept : (j : ℕ) → j < length ks → gone j → now j) (this-too : now i) where
      within_more : (m : Move) → Contains moves m ⊎ Contains noted.new m → now m.from × (m.from < length ls) × (m.next < length ls)
      within_more m (inl c) = let f = e.from m c in (kept m.from f.1 f.0, omega (arith, f.1, long), omega (arith, f.2, long))
      within_more m (inr c) =
          let f = noted-each eq ls i xs noted.new noted.are m c in
          let is : m.from ≡ i = f.2.from in
          (subst now (sym is) this-too, omega (arith, is, inside, long), slice_get_within ls m.next f.2.next.key f.2.next.at)

      gone-by : (j : ℕ) (x : S) → slice_get ls j ≡ Some x → (gone j × (j < length ks)) ⊎ (i ≡ j) → IsGoneOn k eq ls after j x
      gone-by j x there (inl h) = still-gone j x h.0 h.1 there
      gone-by j x there (inr same) = here-gone j x same there

      pub explored-more : Explored k eq ls after now
      explored-more = record {
        begun = λ w b. covers-longer ks ls w begins (e.begun w b);
        gone_on = λ j x h there. gone-by j x there (which j (slice_get_within ls j x there) h);
        from = λ m c. within_more m (Contains-append_cases moves noted.new m (subst (λ l. Contains l m) noted.is c));
        sound = sound-more ks ls i s xs e.sound at n g;
      }

  -- what it takes up was met
  pub sound-is_met : (ks : List S) (i : ℕ) (s : S) → IsSound k ks → slice_get ks i ≡ Some s → IsMet k s
  sound-is_met ks i s sound at = sound s (here ks i s at)

  -- where nothing can be told of what one of them stands for
  pub sound-stuck : (ks : List S) (i : ℕ) (s : S) → IsSound k ks → slice_get ks i ≡ Some s → AllGetStuck k s → CanGetStuck k
  sound-stuck ks i s sound at gives_up =
      let met = sound s (here ks i s at) in
      let gets = gives_up met.comes.end met.comes.is in
      record {
        from = met.from;
        begun = met.begun;
        gets = record { end = gets.end; path = onward (Steps k) met.from met.comes.end gets.end met.comes.path gets.path; is = gets.is };
      }

  -- all were gone on from
  pub explored-whole : (ks : List S) (moves : List Move) (gone : ℕ → Type 0) → ((j : ℕ) → j < length ks → gone j) → Explored k eq ks moves gone
      → ExploredTo k eq ks moves (length ks)
  explored-whole ks moves gone all e = explored-alike ks moves gone (λ (j : ℕ). j < length ks) (λ j low h. low) (λ j low h. all j low) e
