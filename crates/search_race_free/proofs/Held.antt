-- States by their parts: what is shared with what is owned, and the threads.
use Rattle.std.proofs.Common.{◌≡◌, ℕ, zero, suc, ◌&&◌, Bool, true, false, List, [], ◌∷◌, ◌++◌, length, map, inl, inr, Some, refl, sym, ◌∙◌, ap, subst, arith}
use Rattle.std.specs.Prelude.{option_map}
use Rattle.std.specs.List.{slice_get, AllZip, AllByRecursion, IsDistinct, Contains}
use Rattle.std.specs.Cmp.{first_so, second_so}
use Rattle.std.specs.Cmp.Lexicographic.{pointwise}
use Rattle.std.proofs.lemmas.List.{map-append, length-map}
use Rattle.std.proofs.lemmas.Option.{slice_get-map, slice_get-get_or}
use Rattle.std.proofs.lemmas.Slice.Zip.{all_zipped_more}
use Rattle.search_graph.specs.declared.graph.Move.{Move}
use Rattle.search_table.specs.declared.parts.StateParts.{StateParts}
use Rattle.search_table.specs.Tables.{Grows, ArePartsDistinct, AreStates, states_of}
use Rattle.schedule.specs.System.{State}
use Rattle.search_reach.specs.declared.explores.NextState.{NextState}
use Rattle.search_reach.specs.Search.{StepSystem, HasOf, LeadsOn, ComesBy, AreNext}
use Rattle.search_reach.specs.Explored.{Gains, IsNoted, Notes}
use Rattle.search_settled.specs.declared.flat.RestingState.{RestingState}
use Rattle.search_settled.specs.declared.met.NextRow.{NextRow}
use Rattle.search_settled.specs.Threads.{ThreadSystem, IsFlat}
use Rattle.search_settled.specs.Same.{same_length, flat_eq}
use Rattle.search_settled.specs.Known.{AreOf, IsOf, IsNextRow}
use Rattle.search_reach.proofs.Searching.{here}
use Rattle.search_settled.proofs.Rows.{beside, beside-back, zip-length, next-grow, states-distinct}
use Rattle.search_settled.proofs.Nexting.{with_parts}
use Rattle.search_race_free.specs.declared.owning.Owning.{Owning}
use Rattle.search_race_free.specs.declared.met.Held.{Held}
use Rattle.search_race_free.specs.declared.met.StateTable.{StateTable}
use Rattle.search_race_free.specs.contracts.owning.TouchPartialEq.TheImpl as touches
use Rattle.search_race_free.specs.Same.{owning_eq, same_touches, stands-there}
use Rattle.search_race_free.specs.Reduced.{IsResting, StandsBefore, KeepsTouches}
use Rattle.search_race_free.specs.Met.{held, parted, held_eq, HasOwning, IsHeldRow, AreHeldRows, IsCopy}

-- an element is at its place
pub at-of : {A : Type 0} (xs : List A) (x : A) → (c : Contains xs x) → slice_get xs c.0 ≡ Some x
at-of xs x c = slice_get-get_or xs c.0 x c.1 ∙ ap (λ y. Some y) c.2

module _ {G H : Type 0} where
  abbrev pub next_parted : NextState (RestingState (Held G) H) → NextState (Owning (RestingState G H))
  next_parted x = record { thread = x.thread; state = parted x.state }

  pub held-all : (cs : List (RestingState (Held G) H)) → map held (map parted cs) ≡ cs
  held-all [] = refl
  held-all (c ∷ cs) = ap (λ l. c ∷ l) (held-all cs)

  pub parted-all : (ks : List (Owning (RestingState G H))) → map parted (map held ks) ≡ ks
  parted-all [] = refl
  parted-all (k ∷ ks) = ap (λ l. k ∷ l) (parted-all ks)

  among-parted : (cs : List (RestingState (Held G) H)) (s : Owning (RestingState G H)) (i : ℕ) → slice_get (map parted cs) i ≡ Some s →
      slice_get cs i ≡ Some (held s)
  among-parted [] s i at = absurd (cc at)
  among-parted (c ∷ cs) s zero at = ap (λ o. option_map held o) at
  among-parted (c ∷ cs) s (suc i) at = among-parted cs s i at

-- Equal states, and equal parts.
module _ {G H : Type 0} (eq_shared : G → G → Bool) (eq_thread : H → H → Bool) where
  pub same-eq : (x y : Owning (RestingState G H)) → flat_eq (held_eq eq_shared) eq_thread (held x) (held y) ≡ owning_eq eq_shared eq_thread x y
  same-eq x y =
      turned (eq_shared x.flat.shared y.flat.shared) (pointwise eq_thread x.flat.threads.items y.flat.threads.items)
      (pointwise touches.eq-value.it x.owned.items y.owned.items)
    where
      turned : (a t o : Bool) → ((a && o) && t) ≡ ((a && t) && o)
      turned false t o = refl
      turned true true true = refl
      turned true true false = refl
      turned true false true = refl
      turned true false false = refl

  apart-held : (x : Owning (RestingState G H)) (ks : List (Owning (RestingState G H))) →
      AllByRecursion (λ d. flat_eq (held_eq eq_shared) eq_thread (held x) d ≡ false) (map held ks)
      → AllByRecursion (λ d. owning_eq eq_shared eq_thread x d ≡ false) ks
  apart-held x [] h = tt
  apart-held x (y ∷ ks) h = (sym (same-eq x y) ∙ h.0, apart-held x ks h.1)

  pub distinct-held : (ks : List (Owning (RestingState G H))) → IsDistinct (flat_eq (held_eq eq_shared) eq_thread) (map held ks) →
      IsDistinct (owning_eq eq_shared eq_thread) ks
  unfolding IsDistinct
  distinct-held [] h = tt
  distinct-held (k ∷ ks) h = (apart-held k ks h.0, distinct-held ks h.1)

  pub gains-held : (ks : List (Owning (RestingState G H))) (ys : List (NextState (RestingState (Held G) H))) (ls : List (RestingState (Held G) H)) →
      Gains (map held ks) ys ls
      → Gains ks (map next_parted ys) (map parted ls)
  gains-held ks ys ls g = record {
    more = map parted g.more;
    is = ap (map parted) g.is ∙ (map-append parted (map held ks) g.more ∙ ap (λ l. l ++ map parted g.more) (parted-all ks));
    among = λ s c.
        let at = among-parted g.more s c.0 (at-of (map parted g.more) s c) in
        let f = g.among (held s) (here g.more c.0 (held s) at) in
        (next_parted f.0, contains-map ys f.0 f.1, ap parted f.2);
  }
    where
      contains-map : (ys : List (NextState (RestingState (Held G) H))) (y : NextState (RestingState (Held G) H)) → Contains ys y → Contains (map next_parted ys)
          (next_parted y)
      contains-map ys y c =
          here (map next_parted ys) c.0 (next_parted y) (slice_get-map next_parted ys c.0 ∙ ap (option_map next_parted) (at-of ys y c))

  pub notes-held : (ls : List (RestingState (Held G) H)) (at : ℕ) (ys : List (NextState (RestingState (Held G) H))) (before after : List Move)
      → Notes (flat_eq (held_eq eq_shared) eq_thread) ls at ys before after → Notes (owning_eq eq_shared eq_thread) (map parted ls) at (map next_parted ys)
      before after
  notes-held ls at ys before after n = record { new = n.new; is = n.is; are = all ys n.new n.are }
    where
      one : (y : NextState (RestingState (Held G) H)) (m : Move) → IsNoted (flat_eq (held_eq eq_shared) eq_thread) ls at y m →
          IsNoted (owning_eq eq_shared eq_thread) (map parted ls) at (next_parted y) m
      one y m h =
          let has = h.next in
          record {
            from = h.from;
            thread = h.thread;
            next = record {
              key = parted has.key;
              at = slice_get-map parted ls m.next ∙ ap (option_map parted) has.at;
              is = sym (same-eq (parted y.state) (parted has.key)) ∙ has.is;
            };
          }

      all : (ys : List (NextState (RestingState (Held G) H))) (ms : List Move) → AllZip (IsNoted (flat_eq (held_eq eq_shared) eq_thread) ls at) ys ms
          → AllZip (IsNoted (owning_eq eq_shared eq_thread) (map parted ls) at) (map next_parted ys) ms
      all [] [] h = tt
      all [] (m ∷ ms) h = absurd h
      all (y ∷ ys) [] h = absurd h
      all (y ∷ ys) (m ∷ ms) h = (one y m h.0, all ys ms h.1)

-- Next states, and equal ones in their place.
module _ {S W E : Type 0} (k : StepSystem S W E) where
  -- what the one stands for the other does
  abbrev pub StandsAlike : S → S → Type 0
  StandsAlike x y = (w : W) (left : ℕ → ℕ) → k.stands x w left → k.stands y w left

  -- What follows the one follows the other.
  abbrev pub IsFollowedAlike : S → S → Type 0
  IsFollowedAlike x y = (n : ℕ) (z : S) → k.follows x n z → k.follows y n z

  pub record IsLike (x y : NextState S) : Type 0 where
    pub thread : x.thread ≡ y.thread
    pub state : StandsAlike x.state y.state
    pub follow : (s : S) (n : ℕ) → k.follows s n x.state → k.follows s n y.state

  has-there : (xs ys : List (NextState S)) → AllZip IsLike xs ys → (u : ℕ) → HasOf xs u → HasOf ys u
  has-there xs ys like u h =
      let b = beside IsLike xs ys like h.among.0 h.next (at-of xs h.next h.among) in
      record { next = b.0; among = here ys h.among.0 b.0 b.1; is = sym (b.2).thread ∙ h.is }

  has-back : (xs ys : List (NextState S)) → AllZip IsLike xs ys → (u : ℕ) → HasOf ys u → HasOf xs u
  has-back xs ys like u h =
      let b = beside-back IsLike xs ys like h.among.0 h.next (at-of ys h.next h.among) in
      record { next = b.0; among = here xs h.among.0 b.0 b.1; is = (b.2).thread ∙ h.is }

  leads-like : (xs ys : List (NextState S)) → AllZip IsLike xs ys → (n : ℕ) (z : W) (left : ℕ → ℕ) → LeadsOn k xs n z left → LeadsOn k ys n z left
  leads-like xs ys like n z left l =
      let b = beside IsLike xs ys like l.among.0 l.next (at-of xs l.next l.among) in
      record {
        next = b.0;
        among = here ys l.among.0 b.0 b.1;
        by = sym (b.2).thread ∙ l.by;
        after = l.after;
        is = (b.2).state z l.after l.is;
        others = λ u d has. l.others u d (has-back xs ys like u has);
      }

  comes-like : (x y : NextState S) → IsLike x y → (w : W) → ComesBy k x.thread w x.state → ComesBy k y.thread w y.state
  comes-like x y like w c =
      subst (λ n. ComesBy k n w y.state) like.thread
      (record { can = c.can; second = c.second; is = c.is; end = c.end; path = c.path; rest = like.state c.end (λ (n : ℕ). 0) c.rest })

  -- of s, which stands for what its copy does
  pub next-like : (s copy : S) → StandsAlike s copy → StandsAlike copy s → IsFollowedAlike copy s → (xs ys : List (NextState S)) → AllZip IsLike xs ys →
      AreNext k copy xs → AreNext k s ys
  next-like s copy there back follow xs ys like next =
      let o = next.orderly in
      record {
        orderly = record {
          idles = λ w z n stands step. o.idles w z n (stands.0, there w stands.0 stands.1) step;
          few = λ w n stands can. o.few w n (stands.0, there w stands.0 stands.1) can;
          persists = λ w z n u stands can step d going. o.persists w z n u (stands.0, there w stands.0 stands.1) can step d going;
          settles = λ w stands. (let r = o.settles w (stands.0, there w stands.0 stands.1) in (r.0, r.1, back r.0 (λ (n : ℕ). 0) r.2));
        };
        step = λ w z left n stands can made. elim (next.step w z left n (there w left stands) can made) [
          | inl h ↦ inl (record { after = h.after; is = back z h.after h.is; fewer = h.fewer; others = h.others })
          | inr h ↦ inr (leads-like xs ys like n z left h)
        ];
        goes_on = λ w stands y c.
            let b = beside-back IsLike xs ys like c.0 y (at-of ys y c) in
            subst (k.worlds.can w) (b.2).thread
            (next.goes_on w (stands.0, there w stands.0 stands.1) b.0 (here xs c.0 b.0 b.1));
        all = λ w rests n can. has-there xs ys like n (next.all w (there w (λ (n : ℕ). 0) rests) n can);
        comes = λ w rests y c.
            let b = beside-back IsLike xs ys like c.0 y (at-of ys y c) in
            comes-like b.0 y b.2 w (next.comes w (there w (λ (n : ℕ). 0) rests) b.0 (here xs c.0 b.0 b.1));
        follow = λ y c.
            let b = beside-back IsLike xs ys like c.0 y (at-of ys y c) in
            subst (λ n. k.follows s n y.state) (b.2).thread (follow b.0.thread y.state ((b.2).follow copy b.0.thread (next.follow b.0 (here xs c.0 b.0 b.1))));
        ascend = λ i j x y less at-x at-y.
            let a = beside-back IsLike xs ys like i x at-x in
            let b = beside-back IsLike xs ys like j y at-y in
            let low = next.ascend i j a.0 b.0 less a.1 b.1 in
            omega (arith, low, (a.2).thread, (b.2).thread);
      }

-- Rows of states, as they are put.
module _ {G H : Type 0} (eq_shared : G → G → Bool) (eq_thread : H → H → Bool) where
  -- the state of the row
  pub row-state : (t : StateParts (Held G) H) (s : Owning (RestingState G H)) (r : List ℕ) → IsHeldRow eq_shared eq_thread t s r
      → (y : RestingState (Held G) H) × IsOf t r y × (owning_eq eq_shared eq_thread s (parted y) ≡ true)
  unfolding with_parts
  row-state t s r w =
      let c = held s in
      let ok = (c.threads).ok in
      let small = (c.threads).small in
      let long = same_length eq_thread (c.threads).items w.threads w.threads_equal in
      let y = with_parts c w.shared w.threads (omega (arith, ok.0, ok.1, small, long)) in
      let equal : flat_eq (held_eq eq_shared) eq_thread c y ≡ true =
      ap (λ b. b && pointwise eq_thread (c.threads).items w.threads) w.shared_equal ∙ w.threads_equal in
      (y, w.of, sym (same-eq eq_shared eq_thread s (parted y)) ∙ equal)

  pub rows-none : (t : StateParts (Held G) H) (rs : List NextRow) → rs ≡ [] → AreHeldRows eq_shared eq_thread t [] rs
  rows-none t rs none = record { next = []; are = subst (λ l. AllZip (IsNextRow t) l []) (sym none) tt; equal = tt }

  pub rows-more : (t u : StateParts (Held G) H) → Grows t u → (xs : List (NextState (Owning (RestingState G H)))) (rs after : List NextRow)
      (x : NextState (Owning (RestingState G H))) (r : NextRow)
      → AreHeldRows eq_shared eq_thread t xs rs → r.thread ≡ x.thread → IsHeldRow eq_shared eq_thread u x.state r.row.items → after ≡ rs ++ r ∷ []
      → AreHeldRows eq_shared eq_thread u (xs ++ x ∷ []) after
  rows-more t u grows xs rs after x r so thread row pushed =
      let y = row-state u x.state r.row.items row in
      let new : NextState (RestingState (Held G) H) = record { thread = x.thread; state = y.0 } in
      record {
        next = so.next ++ new ∷ [];
        are = subst (λ l. AllZip (IsNextRow u) l (so.next ++ new ∷ [])) (sym pushed)
            (all_zipped_more (IsNextRow u) rs so.next r new (next-grow t u grows rs so.next so.are) (record { thread = sym thread; of = y.1 }));
        equal = all_zipped_more (λ (a : NextState (Owning (RestingState G H))) (b : NextState (RestingState (Held G) H)). (a.thread ≡ b.thread) ×
            (owning_eq eq_shared eq_thread a.state (parted b.state) ≡ true))
            xs so.next x new so.equal (refl, y.2);
      }

  -- no two of the states of a table are equal
  pub owning-distinct : ((x y : G) → eq_shared x y ≡ true → eq_shared y x ≡ true) → ((x y : H) → eq_thread x y ≡ true → eq_thread y x ≡ true)
      → (t : StateTable G H) → ArePartsDistinct (held_eq eq_shared) eq_thread t.parts → (ks : List (Owning (RestingState G H))) → HasOwning t ks
      → IsDistinct (owning_eq eq_shared eq_thread) ks
  owning-distinct shared thread t distinct ks has =
      distinct-held eq_shared eq_thread ks (states-distinct (held_eq eq_shared) eq_thread held-back thread t.parts distinct t.states has.table
      (map held ks) has.are)
    where
      held-back : (x y : Held G) → held_eq eq_shared x y ≡ true → held_eq eq_shared y x ≡ true
      held-back x y e =
          let s = shared x.shared y.shared (first_so (eq_shared x.shared y.shared) (pointwise touches.eq-value.it x.owned.items y.owned.items) e) in
          let o = second_so (eq_shared x.shared y.shared) (pointwise touches.eq-value.it x.owned.items y.owned.items) e in
          let p = same_touches x.owned.items y.owned.items o in
          ap (λ b. b && pointwise touches.eq-value.it y.owned.items x.owned.items) s
          ∙ subst (λ l. pointwise touches.eq-value.it l x.owned.items ≡ true) p (subst (λ l. pointwise touches.eq-value.it x.owned.items l ≡ true) (sym p) o)

module _ {G H : Type 0} where
  pub owning-none : (t : StateTable G H) → AreStates t.states → states_of t.states ≡ [] → HasOwning t []
  owning-none t are empty = record { table = are; are = subst (λ rs. AllZip (IsOf t.parts) rs []) (sym empty) tt }

  pub owning-count : (t : StateTable G H) (ks : List (Owning (RestingState G H))) → HasOwning t ks → (count : ℕ) → count ≡ length (states_of t.states) →
      count ≡ length ks
  owning-count t ks has count is = is ∙ (sym (zip-length (IsOf t.parts) (states_of t.states) (map held ks) has.are) ∙ length-map ks held)

  -- the row of a state
  pub row-at : (t : StateTable G H) (ks : List (Owning (RestingState G H))) → AreOf t.parts t.states (map held ks) → (at : ℕ) (s : Owning (RestingState G H)) →
      slice_get ks at ≡ Some s
      → (r : List ℕ) × (slice_get (states_of t.states) at ≡ Some r) × IsOf t.parts r (held s)
  row-at t ks are at s is =
      beside-back (IsOf t.parts) (states_of t.states) (map held ks) are at (held s) (slice_get-map held ks at ∙ ap (option_map held) is)

  -- which has a number
  pub some-number : (t : StateParts (Held G) H) (r : List ℕ) (c : RestingState (Held G) H) → IsOf t r c → length r ≡ 0 → ⊥
  some-number t [] c of none = of
  some-number t (n ∷ ns) c of none = absurd (cc none)

-- A copy stands for the same.
module _ {X T E V A G H M : Type 0} (k : ThreadSystem X T E V A G H M) where
  flat-copy : (s copy : Owning (RestingState G H)) → IsCopy k s copy → (z : State X T) → IsFlat k s.flat z → IsFlat k copy.flat z
  flat-copy s copy is z f = record {
    shared = (is.shared z.shared).0 f.shared;
    len = ap (λ l. length l) is.threads ∙ f.len;
    each = λ m t at. f.each m t (ap (λ l. slice_get l m) (sym is.threads) ∙ at);
    others = f.others;
  }

  flat-back : (s copy : Owning (RestingState G H)) → IsCopy k s copy → (z : State X T) → IsFlat k copy.flat z → IsFlat k s.flat z
  flat-back s copy is z f = record {
    shared = (is.shared z.shared).1 f.shared;
    len = ap (λ l. length l) (sym is.threads) ∙ f.len;
    each = λ m t at. f.each m t (ap (λ l. slice_get l m) is.threads ∙ at);
    others = f.others;
  }

  pub copy-self : (s : Owning (RestingState G H)) → IsCopy k s s
  copy-self s = record { shared = λ z. ((λ h. h), (λ h. h)); threads = refl; owned = refl }

  pub copy-stands : (s copy : Owning (RestingState G H)) → IsCopy k s copy → (w : State X T) (left : ℕ → ℕ) → StandsBefore k s w left →
      StandsBefore k copy w left
  copy-stands s copy is = stands-there k s copy (flat-copy s copy is) (flat-back s copy is) (sym is.owned)

  pub stands-copy : (s copy : Owning (RestingState G H)) → IsCopy k s copy → (w : State X T) (left : ℕ → ℕ) → StandsBefore k copy w left →
      StandsBefore k s w left
  stands-copy s copy is = stands-there k copy s (flat-back s copy is) (flat-copy s copy is) is.owned

  -- It rests where its state does.
  pub resting-copy : (s copy : Owning (RestingState G H)) → IsCopy k s copy → (z : State X T) → IsResting k s.flat z → IsResting k copy.flat z
  resting-copy s copy is z at = record { reached = at.reached; rests = at.rests; settled_is = flat-copy s copy is z at.settled_is }

  -- The same follows it.
  pub followed-copy : (s copy : Owning (RestingState G H)) → IsCopy k s copy → (n : ℕ) (x : Owning (RestingState G H)) → KeepsTouches k copy n x →
      KeepsTouches k s n x
  followed-copy s copy is n x keeps = record {
    kept = λ t d c. keeps.kept t d (subst (λ l. Contains l t) (sym is.owned) c);
    over = λ z at. keeps.over z (record { reached = at.reached; rests = at.rests; settled_is = flat-copy s copy is z at.settled_is });
  }

-- What equals it has the same touches.
module _ {X T E V A G H M : Type 0} (k : ThreadSystem X T E V A G H M) (eq_shared : G → G → Bool) (eq_thread : H → H → Bool) where
  pub equal-touches : (x y : Owning (RestingState G H)) → owning_eq eq_shared eq_thread x y ≡ true → x.owned.items ≡ y.owned.items
  equal-touches x y e = same_touches x.owned.items y.owned.items
      (second_so (flat_eq eq_shared eq_thread x.flat y.flat) (pointwise touches.eq-value.it x.owned.items y.owned.items) e)

  pub followed-equal : (s : Owning (RestingState G H)) (n : ℕ) (x y : Owning (RestingState G H)) → owning_eq eq_shared eq_thread x y ≡ true →
      KeepsTouches k s n x → KeepsTouches k s n y
  followed-equal s n x y e keeps =
      let same = equal-touches x y e in
      record {
        kept = λ t d c. subst (λ l. Contains l t) same (keeps.kept t d c);
        over = λ z at a h t d g w. subst (λ l. Contains l t) same (keeps.over z at a h t d g w);
      }
