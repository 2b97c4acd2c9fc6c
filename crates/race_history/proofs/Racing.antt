-- The races that are found.
use Rattle.std.proofs.Common.{◌≡◌, ◌∙◌, ◌⊎◌, ◌<◌, ◌≤◌, ◌+◌, ◌++◌, ◌/◌, ◌%◌, ℕ, List, [], true, length, get_or, map}
use Rattle.std.proofs.Common.{take, drop, inl, inr, refl, sym, ap, subst, arith}
use Rattle.std.specs.Prelude.{nat_le}
use Rattle.std.specs.List.{All, AllPairs, Contains}
use Rattle.std.proofs.lemmas.Bool.{and_from, and_parts, cases_lt, le-leb, leb-true}
use Rattle.std.proofs.lemmas.List.{get_or-take, get_or_default, length-take-le, take-append-drop}
use Rattle.std.proofs.lemmas.List.Elements.{Contains-append_cases, Contains-append_left, Contains-append_right}
use Rattle.types.specs.declared.event.Entry.{Entry}
use Rattle.shared_memory.specs.History.{AreEntries}
use Rattle.race_history.specs.declared.access.ThreadAccess.{ThreadAccess}
use Rattle.race_history.specs.declared.access.Site.{Site}
use Rattle.race_history.specs.declared.lasts.Last.{Last}
use Rattle.race_history.specs.declared.race.Race.{Race}
use Rattle.race_history.specs.Accesses.{Meet, accesses_of}
use Rattle.race_history.specs.Places.{IsAccess, IsAt, thread_at}
use Rattle.race_history.specs.Order.{IsBefore}
use Rattle.race_history.specs.Lasts.{AreLasts, list_for}
use Rattle.race_history.specs.Clocks.{AreClocks}
use Rattle.race_history.specs.Found.{HaveMore, IsClashOf, IsLess, clashes, race_to}
use Rattle.race_history.specs.Races.{AreInOrder, AreRaces, AreRacing, Conflict, HasEach, IsCut, IsEarlier, IsLastRace, IsNamed, IsRaceOf}
use Rattle.race_history.specs.Tests.{conflicts}
use Rattle.race_history.proofs.Lists.{Contains-at, Contains-map, Contains-none, IsAt-get}
use Rattle.race_history.proofs.Lists.{all_pairs_append, all_pairs_map, all_pairs_none, all_pairs_take, map-Contains}
use Rattle.race_history.proofs.Places.{access_made, access_thread, access_word, made_here, thread_is}
use Rattle.race_history.proofs.Words.{conflict_from, conflict_to}
use Rattle.race_history.proofs.Reading.{near, words}
use Rattle.race_history.proofs.Keeping.{once}

-- of the entries before a place each race is named
abbrev pub HasEachTo : List Entry → List Site → ℕ → ℕ → List Race → Type 0
HasEachTo log sites opening end pairs = (first second : ℕ) (a b : ThreadAccess) → second < end → AreRacing log sites opening first second a b
    → IsNamed log sites opening pairs a b second

-- the races of the entries before a place
pub record AreFound (log : List Entry) (sites : List Site) (opening end : ℕ) (pairs : List Race) : Type 0 where
  pub races : AreRaces log sites opening pairs
  pub in_order : AreInOrder pairs
  pub before : (r : Race) → Contains pairs r → r.second < end
  pub each : HasEachTo log sites opening end pairs

module _ (log : List Entry) (sites : List Site) (opening : ℕ) where
  -- a race ends within the history
  pub racing_within : (first second : ℕ) (a b : ThreadAccess) → AreRacing log sites opening first second a b → second < length log
  racing_within first second a b r = r.met.entered.within

  pub each_all : (pairs : List Race) → HasEachTo log sites opening (length log) pairs → HasEach log sites opening pairs
  each_all pairs h = λ first second a b r. h first second a b (racing_within first second a b r) r

  module _ (entries : AreEntries log) (threads end : ℕ) (lists : List (List Last)) (lasts : AreLasts log sites opening end lists)
      (clocks : List (List ℕ)) (h : AreClocks log sites opening threads (length log) clocks) where
    -- one of the entry's accesses
    module _ (a : ThreadAccess) (is : IsAccess log sites opening end a) where
      -- what the clock says of an earlier access
      unordered : (x : Last) → Contains (list_for lists a.addr) x → nat_le (get_or (get_or clocks end []) x.access.thread 0) x.place ≡ true
          → IsBefore log sites opening x.place end → ⊥
      unordered x c t b =
          let m = lasts.made (a.addr / 8 % length lists) x c in
          let thread : thread_at log x.place ≡ x.access.thread = access_thread log sites opening x.place x.access m.1 in
          let below : x.place < get_or (get_or clocks end []) (thread_at log x.place) 0 =
          ((h.each end is.entered.within).counts x.place m.1.entered.within).1 (inr b) in
          let same : get_or (get_or clocks end []) (thread_at log x.place) 0 ≡ get_or (get_or clocks end []) x.access.thread 0 =
          ap (λ (k : ℕ). get_or (get_or clocks end []) k 0) thread in
          let le : get_or (get_or clocks end []) x.access.thread 0 ≤ x.place = leb-true (get_or (get_or clocks end []) x.access.thread 0) x.place t in
          omega arith

      -- no later entry made its access
      none_later : (x : Last) → Contains (list_for lists a.addr) x → Meet x.access a → (k : ℕ) → x.place < k → k < end
          → IsAccess log sites opening k x.access → ⊥
      none_later x c meet k after before i =
          let n = near log sites opening entries end lists lasts a is k x.access before i meet in
          let late : k ≤ n.0.place = n.1.2 in
          let same : n.0 ≡ x = once (list_for lists a.addr) n.0 x (lasts.once (a.addr / 8 % length lists)) n.1.0 c n.1.1 in
          let at : n.0.place ≡ x.place = ap (λ (z : Last). z.place) same in
          omega arith

      race_here : (x : Last) → Contains (list_for lists a.addr) x → clashes a (get_or clocks end []) x ≡ true
          → IsRaceOf log sites opening (race_to end x.place) x.access a
      race_here x c t =
          let p = and_parts (conflicts x.access a) (nat_le (get_or (get_or clocks end []) x.access.thread 0) x.place) t in
          let m = lasts.made (a.addr / 8 % length lists) x c in
          let conflict : Conflict x.access a =
          conflict_from x.access a (words log sites opening entries end lists lasts a is x c) (access_word log sites opening entries end a is) p.0 in
          record {
            racing = record {
              earlier = m.0;
              made = m.1;
              met = is;
              conflict = conflict;
              unordered = unordered x c p.1;
            };
            last = none_later x c conflict.meet;
          }

      -- where it races with an earlier access, it clashes with the last that is the same
      clash_here : (first : ℕ) (b : ThreadAccess) → AreRacing log sites opening first end b a
          → (x : Last) × (Contains (list_for lists a.addr) x × ((clashes a (get_or clocks end []) x ≡ true) × (x.access ≡ b)))
      clash_here first b r =
          let n = near log sites opening entries end lists lasts a is first b r.earlier r.made r.conflict.meet in
          let x : Last = n.0 in
          let late : first ≤ x.place = n.1.2 in
          let clashing : conflicts x.access a ≡ true = conflict_to x.access a (subst (λ (z : ThreadAccess). Conflict z a) (sym n.1.1) r.conflict) in
          let thread : thread_at log first ≡ x.access.thread =
          access_thread log sites opening first b r.made ∙ ap (λ (z : ThreadAccess). z.thread) (sym n.1.1) in
          let above : get_or (get_or clocks end []) x.access.thread 0 ≤ first = elim (cases_lt first (get_or (get_or clocks end []) x.access.thread 0)) [
            | inl lt ↦
                let at : get_or (get_or clocks end []) (thread_at log first) 0 ≡ get_or (get_or clocks end []) x.access.thread 0 =
                ap (λ (k : ℕ). get_or (get_or clocks end []) k 0) thread in
                let below : first < get_or (get_or clocks end []) (thread_at log first) 0 = omega arith in
                let up = ((h.each end is.entered.within).counts first r.made.entered.within).0 below in
                let earlier : first < end = r.earlier in
                absurd (elim up [ inl e ↦ omega arith | inr before ↦ r.unordered before ])
            | inr le ↦ le
          ] in
          let test : clashes a (get_or clocks end []) x ≡ true =
          and_from (conflicts x.access a) (nat_le (get_or (get_or clocks end []) x.access.thread 0) x.place) clashing
          (le-leb (get_or (get_or clocks end []) x.access.thread 0) x.place (omega arith)) in
          (x, (n.1.0, (test, n.1.1)))

    -- all of them, and the places with which they clash
    module _ (e : Entry) (site : Site) (at : IsAt log end e) (of : IsAt sites end site) (firsts : List ℕ)
        (more : HaveMore [] firsts (IsClashOf (accesses_of e site opening) (get_or clocks end []) lists)) where
      abbrev new : List Race
      new = map (race_to end) firsts

      new_races : AreRaces log sites opening new
      new_races r c =
          let q = Contains-map (race_to end) firsts r c in
          elim (more.from q.0 q.1.0) [
            | inl none ↦ absurd (Contains-none q.0 none)
            | inr i ↦
                let a : ThreadAccess = i.0 in
                let x : Last = i.1.1.0 in
                let race = race_here a (access_made log sites opening end e site a at of i.1.0) x i.1.1.1.0 i.1.1.1.1.0 in
                let same : race_to end x.place ≡ r = ap (race_to end) i.1.1.1.1.1 ∙ q.1.1 in
                subst (λ (z : Race). IsLastRace log sites opening z) same (record { a = x.access; b = a; is = race })
          ]

      new_named : (first : ℕ) (b a : ThreadAccess) → AreRacing log sites opening first end b a → IsNamed log sites opening new b a end
      new_named first b a r =
          let i = clash_here a r.met first b r in
          let x : Last = i.0 in
          let has : Contains firsts x.place =
          more.all x.place (inr (a, (made_here log sites opening end e site a at of r.met, (x, (i.1.0, (i.1.1.0, refl)))))) in
          record {
            first = x.place;
            is =
                subst (λ (z : ThreadAccess). IsRaceOf log sites opening (race_to end x.place) z a) i.1.1.1
                (race_here a r.met x i.1.0 i.1.1.0);
            named = map-Contains (race_to end) firsts x.place has;
          }

      races_more : (pairs : List Race) → AreRaces log sites opening pairs → AreRaces log sites opening (pairs ++ new)
      races_more pairs old r c = elim (Contains-append_cases pairs new r c) [ inl before ↦ old r before | inr here ↦ new_races r here ]

      named_more : (pairs : List Race) (a b : ThreadAccess) (second : ℕ) (n : IsNamed log sites opening pairs a b second)
          → IsNamed log sites opening (pairs ++ new) a b second
      named_more pairs a b second n = record {
        first = n.first;
        is = n.is;
        named = Contains-append_left pairs new (record { first = n.first; second = second }) n.named;
      }

      named_new : (pairs : List Race) (a b : ThreadAccess) (second : ℕ) → second ≡ end → IsNamed log sites opening new a b end
          → IsNamed log sites opening (pairs ++ new) a b second
      named_new pairs a b second e n =
          subst (λ (k : ℕ). IsNamed log sites opening (pairs ++ new) a b k) (sym e)
          (record {
            first = n.first;
            is = n.is;
            named = Contains-append_right pairs new (record { first = n.first; second = end }) n.named;
          })

      each_more : (pairs : List Race) → HasEachTo log sites opening end pairs → HasEachTo log sites opening (end + 1) (pairs ++ new)
      each_more pairs old first second a b lt r = elim (cases_lt second end) [
        | inl before ↦ named_more pairs a b second (old first second a b before r)
        | inr le ↦
            let same : second ≡ end = omega arith in
            named_new pairs a b second same (new_named first a b (subst (λ (k : ℕ). AreRacing log sites opening first k a b) same r))
      ]

      -- the new ones are in order, each behind all before
      new_in_order : AllPairs IsEarlier new
      new_in_order = all_pairs_map (race_to end) IsLess IsEarlier (λ i j lt. inr (refl, lt)) firsts more.in_order

      new_second : (r : Race) → Contains new r → r.second ≡ end
      new_second r c = let q = Contains-map (race_to end) firsts r c in ap (λ (z : Race). z.second) (sym q.1.1)

      pub found_more : (pairs : List Race) → AreFound log sites opening end pairs → AreFound log sites opening (end + 1) (pairs ++ new)
      found_more pairs f = record {
        races = races_more pairs f.races;
        in_order =
            all_pairs_append IsEarlier pairs new f.in_order new_in_order
            (λ r s c d. inl (subst (λ (n : ℕ). r.second < n) (sym (new_second s d)) (f.before r c)));
        before = λ r c. elim (Contains-append_cases pairs new r c) [
          | inl old ↦ let lt : r.second < end = f.before r old in omega arith
          | inr here ↦ let e : r.second ≡ end = new_second r here in omega arith
        ];
        each = each_more pairs f.each;
      }

  -- the threads of the last accesses
  pub threads_known : (threads end : ℕ) (lists : List (List Last)) → All (λ (e : Entry). e.thread < threads) log → AreLasts log sites opening end lists
      → All (All (λ (x : Last). x.access.thread < threads)) lists
  threads_known threads end lists few lasts n l within k d lt =
      let list : List Last = get_or lists n l in
      let x : Last = get_or list k d in
      let same : get_or lists n [] ≡ list = get_or_default lists n [] l within in
      let m = lasts.made n x (subst (λ (z : List Last). Contains z x) (sym same) (Contains-at list k x (IsAt-get list k d lt))) in
      let e : Entry = m.1.entry in
      let below : e.thread < threads =
      subst (λ (y : Entry). y.thread < threads) m.1.entered.is (few x.place e m.1.entered.within) in
      let at : thread_at log x.place ≡ e.thread = thread_is log sites opening x.place e m.1.entered in
      let same : thread_at log x.place ≡ x.access.thread = access_thread log sites opening x.place x.access m.1 in
      omega arith

  -- at first
  pub found_none : AreFound log sites opening 0 []
  found_none = record {
    races = λ r c. absurd (Contains-none r c);
    in_order = all_pairs_none IsEarlier;
    before = λ r c. absurd (Contains-none r c);
    each = λ first second a b lt r. absurd (omega arith);
  }

  -- what is left of a list of races that is cut
  module _ (end most : ℕ) (pairs : List Race) (h : AreFound log sites opening end pairs) (over : most < length pairs) where
    in_cut : (r : Race) → Contains (take most pairs) r → Contains pairs r
    in_cut r c =
        subst (λ (l : List Race). Contains l r) (take-append-drop most pairs) (Contains-append_left (take most pairs) (drop most pairs) r c)

    -- each that is left comes before each at a later place
    ahead : (r s : Race) (k : ℕ) → Contains (take most pairs) r → most ≤ k → k < length pairs → get_or pairs k s ≡ s → IsEarlier r s
    ahead r s k c late within at =
        let i : ℕ = c.0 in
        let long : length (take most pairs) ≡ most = length-take-le most pairs (omega arith) in
        let lt : i < length (take most pairs) = c.1 in
        let below : i < most = omega arith in
        let is : get_or pairs i s ≡ r =
        sym (get_or-take most pairs i s below) ∙ (get_or_default (take most pairs) i s r lt ∙ c.2) in
        subst (λ (x : Race). IsEarlier x s) is
        (subst (λ (y : Race). IsEarlier (get_or pairs i s) y) at (h.in_order i k s (omega arith) within))

    isnt_earlier : (r : Race) → IsEarlier r r → ⊥
    isnt_earlier r e = elim e [ inl lt ↦ omega arith | inr both ↦ let lt : r.first < r.first = both.1 in omega arith ]

    -- the first that is left out
    abbrev out : Race
    out = get_or pairs most (record { first = 0; second = 0 })

    out_at : IsAt pairs most out
    out_at = IsAt-get pairs most (record { first = 0; second = 0 }) over

    -- a race of the last with the same access is named by itself
    named_it : (r : Race) → IsLastRace log sites opening r → r.second < end → Contains pairs r
    named_it r t lt =
        let n = h.each r.first r.second t.a t.b lt t.is.racing in
        let here : n.first < r.second = n.is.racing.earlier in
        let there : r.first < r.second = t.is.racing.earlier in
        elim (cases_lt n.first r.first) [
          | inl before ↦ absurd (n.is.last r.first before there t.is.racing.made)
          | inr ge ↦ elim (cases_lt r.first n.first) [
            | inl after ↦ absurd (t.is.last n.first after here n.is.racing.made)
            | inr le ↦
                let e : n.first ≡ r.first = omega arith in
                subst (λ (k : ℕ). Contains pairs (record { first = k; second = r.second })) e n.named
          ]
        ]

    first_ones : (r : Race) → IsLastRace log sites opening r → Contains (take most pairs) r ⊎ ((s : Race) → Contains (take most pairs) s → IsEarlier s r)
    first_ones r t = elim (cases_lt r.second end) [
      | inl before ↦
          let c = named_it r t before in
          let k : ℕ = c.0 in
          elim (cases_lt k most) [
            | inl below ↦
                let long : length (take most pairs) ≡ most = length-take-le most pairs (omega arith) in
                let within : k < length (take most pairs) = omega arith in
                inl (k, within, get_or-take most pairs k r below ∙ c.2)
            | inr late ↦ inr (λ s d. ahead s r k d late c.1 c.2)
          ]
      | inr ge ↦ inr (λ s d. let lt : s.second < end = h.before s (in_cut s d) in inl (omega arith))
    ]

    pub cut_races : AreRaces log sites opening (take most pairs)
    cut_races r c = h.races r (in_cut r c)

    pub cut_in_order : AreInOrder (take most pairs)
    cut_in_order = all_pairs_take IsEarlier most pairs (omega arith) h.in_order

    pub cut_is : IsCut log sites opening (take most pairs) most
    cut_is = record {
      full = length-take-le most pairs (omega arith);
      more = (
        out,
        (
          h.races out (Contains-at pairs most out out_at),
          λ c. isnt_earlier out (ahead out out most c (omega arith) over out_at.is),
        ),
      );
      first = first_ones;
    }
