-- Where all come to rest in the beginning, and what is asked of the search beside next states.
use Rattle.std.proofs.Common.{◌≡◌, inl, inr, refl, sym, subst, arith, ℕ, List, [], ◌∷◌, Contains, Option}
use Rattle.schedule.specs.System.{State}
use Rattle.search_reach.specs.Search.{StepSystem, IsFirst, IsMet, IsEnding, IsAll, AllGetStuck, CanGetStuck}
use Rattle.search_reach.proofs.Paths.{stays, onward}
use Rattle.search_settled.specs.Settled.{IsReached, StepsBy, AreTame}
use Rattle.search_settled.specs.declared.access.NextAccess.{NextAccess}
use Rattle.search_settled.specs.declared.flat.RestingState.{RestingState}
use Rattle.search_settled.specs.Threads.{ThreadSystem}
use Rattle.search_settled.specs.Next.{IsBeginning, IsSomewhere, HasEnded}
use Rattle.search_race_free.specs.declared.owning.Touch.{Touch}
use Rattle.search_race_free.specs.declared.owning.Owning.{Owning}
use Rattle.search_race_free.specs.declared.race.ThreadRace.{ThreadRace}
use Rattle.search_race_free.specs.Orders.{times}
use Rattle.search_race_free.specs.Wanted.{ArePlain}
use Rattle.search_race_free.specs.Races.{MeetInRace, HasRace}
use Rattle.search_race_free.specs.Owned.{Within}
use Rattle.search_race_free.specs.Touches.{AreClear, AreInTheWay}
use Rattle.search_race_free.specs.Reduced.{wanted_in, next_in, Rest, RestsSomewhere, StandsBefore, reduced_steps}
use Rattle.search_race_free.specs.Search.{NoneBeyond, NobodyGoesOn, AreWanted, GetsLost, IsOwned, IsRace, IsKnown, IsBegun}
use Rattle.search_race_free.proofs.Moving.{reached-along}
use Rattle.search_race_free.proofs.Turning.{plain-laws}
use Rattle.search_race_free.proofs.Striking.{own-within}
use Rattle.search_race_free.proofs.Resting.{RestsBy, to_rest}
use Rattle.search_race_free.proofs.Continuing.{clear-kept, way-races}
use Rattle.search_race_free.proofs.Reducing.{path-steps, resting, somewhere, kept-of, free-at}

module _ {X T E V A G H M : Type 0} (k : ThreadSystem X T E V A G H M)
    (tame : AreTame k.system k.first k.most) (plain : ArePlain k.system k.accesses k.first) where
  -- by turns of their own
  beginning-by : (owned : List Touch) (c : RestingState G H) (b : IsBeginning k c) → RestsBy k.system k.accesses (Within owned)
      (own-within owned) k.first b.settled
  beginning-by owned c b =
      to_rest k.system k.accesses (Within owned) (own-within owned) k.most k.first b.settled (tame.few k.first (stays (StepsBy k.system) k.first)) b.rest

  pub beginning-rests : (c : RestingState G H) → IsBeginning k c → RestsSomewhere k c
  beginning-rests c b =
      let r = beginning-by [] c b in (
        b.settled,
        record {
          reached = reached-along (wanted_in k) (next_in k) (IsReached k.system k.first) (plain-laws k.system k.accesses k.first k.most tame plain)
              (Within []) r.order
              k.first b.settled (stays (StepsBy k.system) k.first) r.makes;
          rests = λ m. (b.rest.each m).rests;
          settled_is = b.settled_is;
        },
      )

  -- where nobody owns anything
  pub begun-owned : (x : Owning (RestingState G H)) → x.owned.items ≡ [] → IsBeginning k x.flat → IsOwned k x
  begun-owned x none b = record {
    somewhere = beginning-rests x.flat b;
    made = λ t among. absurd (no-touch t among);
    apart = λ t u in_t in_u d c. no-touch t in_t;
  }
    where
      no-touch : (t : Touch) → Contains x.owned.items t → ⊥
      no-touch t among = let h = subst (λ l. Contains l t) none among in omega (arith, h.1)

  pub begun-clear : (x : Owning (RestingState G H)) (wanted : List (Option NextAccess)) → x.owned.items ≡ [] → IsBeginning k x.flat → AreWanted k x.flat wanted
      → AreClear wanted x.owned.items → IsBegun k x
  begun-clear x wanted none b are clear = record {
    kept = clear-kept k tame plain x wanted (begun-owned x none b) are clear;
    beginning = b;
  }

  pub begun-races : (x : Owning (RestingState G H)) (wanted : List (Option NextAccess)) (one other : ℕ) → x.owned.items ≡ [] → IsBeginning k x.flat →
      AreWanted k x.flat wanted
      → AreInTheWay wanted x.owned.items one other → HasRace k.system k.first k.accesses one other
  begun-races x wanted one other none b are way = way-races k tame plain x wanted one other (begun-owned x none b) are way

  pub begun-known : (x : Owning (RestingState G H)) → IsBegun k x → IsKnown k x
  begun-known x begun = record { somewhere = beginning-rests x.flat begun.beginning; kept = begun.kept }

  -- what is known is owned
  pub known-owned : (s : Owning (RestingState G H)) → IsKnown k s → IsOwned k s
  known-owned s known =
      let at = known.somewhere in
      let kept = known.kept in
      record {
        somewhere = at;
        made = kept.made;
        apart = (let safe = kept.safe at.0 at.1 in safe.apart);
      }

  module _ {O : Type 0} (ends : State X T → O → Type 0) (stuck : State X T → Type 0) where
    abbrev Reduced : StepSystem (Owning (RestingState G H)) (State X T) O
    Reduced = reduced_steps k ends stuck

    pub begun-first : (x : Owning (RestingState G H)) → IsBegun k x → IsFirst Reduced x
    begun-first x begun =
        let b = begun.beginning in
        let r = beginning-by x.owned.items x.flat b in
        record {
          all = λ w begins. (
            (λ (n : ℕ). times n r.order),
            subst (λ v. StandsBefore k x v (λ n. times n r.order)) (sym begins) (record {
              kept = begun.kept;
              reached = stays (StepsBy k.system) k.first;
              order = r.order;
              settled = b.settled;
              makes = r.makes;
              rests = λ m. (b.rest.each m).rests;
              settled_is = b.settled_is;
              turns_are = λ n. refl;
            }),
          );
          one = k.first;
          begun = refl;
        }

    pub race-first : (r : ThreadRace) → IsRace k r → CanGetStuck Reduced
    race-first r race = record {
      from = k.first;
      begun = refl;
      gets = record { end = k.first; path = stays (StepsBy k.system) k.first; is = inr (r.one, r.other, race) };
    }

    pub stuck-first : stuck k.first → CanGetStuck Reduced
    stuck-first is-stuck = record {
      from = k.first;
      begun = refl;
      gets = record { end = k.first; path = stays (StepsBy k.system) k.first; is = inl is-stuck };
    }

    pub race-stuck : (s : Owning (RestingState G H)) (r : ThreadRace) → IsRace k r → AllGetStuck Reduced s
    race-stuck s r race w stands = record { end = w; path = stays (StepsBy k.system) w; is = inr (r.one, r.other, race) }

    module _ (beyond : NoneBeyond k.system k.accesses k.first k.most) where
      pub known-met : (s : Owning (RestingState G H)) → IsMet Reduced s → IsKnown k s
      known-met s met = record {
        somewhere = somewhere k ends stuck tame plain beyond s met;
        kept = kept-of k ends stuck tame plain beyond s met;
      }

      pub lost-stuck : (s : Owning (RestingState G H)) → GetsLost k stuck s.flat → AllGetStuck Reduced s
      lost-stuck s lost w stands =
          let st = stands.1 in
          let l = lost st.settled (resting k ends stuck tame plain beyond s w stands.0 st) in
          record {
            end = l.0;
            path = onward (StepsBy k.system) w st.settled l.0 (path-steps k ends stuck tame plain beyond (Within s.owned.items) st.order w st.settled st.makes)
                l.1;
            is = inl l.2;
          }

      -- nobody goes on where all have ended, so it is where all rest
      pub ending-is : NobodyGoesOn k.system k.accesses ends → (s : Owning (RestingState G H)) (r : Option O) → HasEnded k ends s.flat r → IsEnding Reduced s r
      ending-is over s r ended = record {
        all = λ w o stands is. (let st = stands.1 in
            let rest = resting k ends stuck tame plain beyond s w stands.0 st in
            let same : w ≡ st.settled = none-on w o is st.order st.settled st.makes in
            ended.all st.settled o (record { reached = rest.reached; settled_is = rest.settled_is }) (subst (λ v. ends v o) same is));
        sound = λ w o stands is. (let st = stands.1 in
            let rest = resting k ends stuck tame plain beyond s w stands.0 st in
            record {
              end = st.settled;
              path = path-steps k ends stuck tame plain beyond (Within s.owned.items) st.order w st.settled st.makes;
              stands = (
                λ (n : ℕ). times n [],
                record {
                  kept = st.kept;
                  reached = rest.reached;
                  order = [];
                  settled = st.settled;
                  makes = refl;
                  rests = st.rests;
                  settled_is = st.settled_is;
                  turns_are = λ n. refl;
                },
              );
              is = ended.sound st.settled o (record { reached = rest.reached; settled_is = rest.settled_is }) is;
            });
      }
        where
          none-on : (w : State X T) (o : O) → ends w o → (ts : List ℕ) (z : State X T) → Rest k s.owned.items ts w z → w ≡ z
          none-on w o is [] z p = p
          none-on w o is (t ∷ ts) z p = absurd (over w o is t p.0.access p.0.wanted)

      pub ended-somewhere : (s : Owning (RestingState G H)) → IsMet Reduced s → IsSomewhere k s.flat
      ended-somewhere s met = let at = somewhere k ends stuck tame plain beyond s met in (at.0, record { reached = at.1.reached; settled_is = at.1.settled_is })

      -- where all that can be reached is stood for, nowhere two next accesses race
      pub none-meet : (keys : List (Owning (RestingState G H))) → IsAll Reduced keys → (one other : ℕ)
          → MeetInRace k.system k.first k.accesses one other → ⊥
      none-meet keys all one other m =
          let c = all k.first m.state refl m.reached in
          let stands = c.is in
          free-at k ends stuck tame plain beyond c.state m.state stands.0 stands.1 one other m.access m.next m.differ m.wanted m.wanted_next m.race
