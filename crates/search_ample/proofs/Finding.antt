-- Where only some threads go on, footprints hold of all runs, and all ends, all that is wanted and all conflicts are found.
use Rattle.std.specs.Prelude.{◌≡◌, ◌<◌, ◌⊎◌, ℕ, zero, suc, true, false, List, [], ◌∷◌, ◌++◌, length, refl}
use Rattle.std.proofs.Common.{sym, inl, inr, arith}
use Rattle.std.proofs.lemmas.Bool.{cases_Bool}
use Rattle.search_graph.specs.Paths.{Reaches}
use Rattle.search_graph.specs.Graph.{Moves, Steps}
use Rattle.search_ample.specs.Systems.{System, CanGo, IsOver, AreApart, AreIndependent}
use Rattle.search_ample.specs.Explored.{Explored, Meaning, IsExploredOf}
use Rattle.search_ample.specs.Ample.{IsAmple}
use Rattle.search_ample.specs.Found.{IsRun, IsInFootprint, IsFound, BothAreFound, FootprintsHold, EndsAreFound, WantsAreFound, ConflictsAreFound}
use Rattle.search_ample.specs.Found.{ComesBack, AllComeBack, AllCanGoOn}
use Rattle.search_ample.proofs.Ways.{HoldsBelow, ComesFirst, ComesBeside, goes-apart, apart-of, by-ways}

module _ {S A : Type 0} (k : System S A) (laws : AreIndependent k) (mean : Meaning S A) (e : Explored) (x : IsExploredOf k mean e) (c : IsAmple e) where
  abbrev RunOf : ℕ → S → List ℕ → S → Type 0
  RunOf = IsRun k mean e

  abbrev First : ℕ → S → List ℕ → S → Type 0
  First = ComesFirst k laws mean e x c

  abbrev Beside : ℕ → S → List ℕ → S → Type 0
  Beside = ComesBeside k laws mean e x c

  -- What threads want at the run's end is in their footprints.
  abbrev HoldsOf : ℕ → S → List ℕ → S → Type 0
  HoldsOf i s ns z = (u : ℕ) (a : A) → k.wants z u a → IsInFootprint k mean e i u a

  wanted-here : (i : ℕ) (s : S) → mean.stands i s → (u : ℕ) (a : A) → k.wants s u a → IsInFootprint k mean e i u a
  wanted-here i s at u a w =
      let l = x.wants i u s a at w in
      record { number = l.number; names = l.names; may = c.wanted i u l.number (x.state i s at) (x.few_want s u a (x.among i s at) w) l.among }

  -- What a footprint has behind a move, it has before.
  before : (i t j u : ℕ) (a : A) → Moves e.moves i t j → u < e.threads → IsInFootprint k mean e j u a → IsInFootprint k mean e i u a
  before i t j u a move few f = record { number = f.number; names = f.names; may = c.kept i t j u f.number move few f.may }

  -- What a thread that goes on wants at the end conflicts with nothing that one that waits may still want.
  never-both : (i : ℕ) (s : S) (ns : List ℕ) (z : S) → RunOf i s ns z → (w : Beside i s ns z) → (m u : ℕ) (a b : A) → m < e.threads → u < e.threads
      → e.goes i m ≡ true → e.goes i u ≡ false → k.wants z m a → IsInFootprint k mean e i u b → k.conflict a b → ⊥
  never-both i s ns z f w m u a b few_m few_u gm gu wants may cf =
      apart-of k laws mean e x c i m u s a b f.begins few_m few_u gm gu (inl (((w.kept m few_m gm).wants a).1 wants)) may cf

  -- What one that waits wants there, it wants behind the other's step.
  waits-still : (i : ℕ) (s : S) (ns : List ℕ) (z : S) → RunOf i s ns z → (w : Beside i s ns z) → HoldsOf w.next w.world ns w.end
      → (u : ℕ) (a : A) → e.goes i u ≡ false → k.wants z u a → k.wants w.end u a
  waits-still i s ns z f w h u a gu wants =
      by (laws.still z w.end u w.thread a f.among (λ q. goes-apart k laws mean e x c i w.thread u w.goes_on gu (sym q)) w.last wants)
    where
      few : u < e.threads
      few = x.few_want z u a f.among wants

      by : k.wants w.end u a ⊎ ((b : A) × (d : A) × k.wants w.end u b × k.wants z w.thread d × k.conflict d b) → k.wants w.end u a
      by (inl there) = there
      by (inr p) =
          absurd (never-both i s ns z f w w.thread u p.1 p.0 w.few few w.goes_on gu p.3 (before i w.thread w.next u p.0 w.move few (h u p.0 p.2)) p.4)

  by-first : (i : ℕ) (s : S) (ns : List ℕ) (z : S) → RunOf i s ns z → (w : First i s ns z) → HoldsOf w.next w.world (w.before ++ w.behind) z → HoldsOf i s ns z
  by-first i s ns z f w h u a wants = before i w.thread w.next u a w.move (x.few_want z u a f.among wants) (h u a wants)

  by-beside : (i : ℕ) (s : S) (ns : List ℕ) (z : S) → RunOf i s ns z → (w : Beside i s ns z) → HoldsOf w.next w.world ns w.end → HoldsOf i s ns z
  by-beside i s ns z f w h u a wants = by (cases_Bool (e.goes i u))
    where
      few : u < e.threads
      few = x.few_want z u a f.among wants

      by : (e.goes i u ≡ true) ⊎ (e.goes i u ≡ false) → IsInFootprint k mean e i u a
      by (inl g) = wanted-here i s f.begins u a (((w.kept u few g).wants a).1 wants)
      by (inr g) = before i w.thread w.next u a w.move few (h u a (waits-still i s ns z f w h u a g wants))

  -- No step is made: what is wanted is wanted where the run begins.
  here : (i : ℕ) (s z : S) → RunOf i s [] z → (u : ℕ) (a : A) → k.wants z u a → k.wants s u a
  here i s z f u a wants = ((laws.states.same s z u (x.among i s f.begins) f.among f.runs).wants a).1 wants

  pub holds-below : (n : ℕ) → HoldsBelow k laws mean e x c n
  holds-below zero i s ns z len f u a wants = absurd (omega arith)
  holds-below (suc n) i s ns z len f u a wants =
      by-ways k laws mean e x c n (holds-below n) HoldsOf
      (λ j v y g t b w. wanted-here j v g.begins t b (here j v y g t b w))
      by-first by-beside i s ns z (omega arith) f u a wants

  pub footprints-hold : FootprintsHold k mean e
  footprints-hold i s ns z f = holds-below (suc (length ns)) i s ns z (omega arith) f

  -- The principle, now that footprints hold of all runs.
  ways : (Q : ℕ → S → List ℕ → S → Type 0) → ((i : ℕ) (s z : S) → RunOf i s [] z → Q i s [] z)
      → ((i : ℕ) (s : S) (ns : List ℕ) (z : S) → RunOf i s ns z → (w : First i s ns z) → Q w.next w.world (w.before ++ w.behind) z → Q i s ns z)
      → ((i : ℕ) (s : S) (ns : List ℕ) (z : S) → RunOf i s ns z → (w : Beside i s ns z) → Q w.next w.world ns w.end → Q i s ns z)
      → (i : ℕ) (s : S) (ns : List ℕ) (z : S) → RunOf i s ns z → Q i s ns z
  ways Q none one other i s ns z f =
      by-ways k laws mean e x c (length ns) (holds-below (length ns)) Q none one other i s ns z (omega arith) f

  further : (i t j h : ℕ) → Moves e.moves i t j → Reaches (Steps e.moves) j h → Reaches (Steps e.moves) i h
  further i t j h m p = record { count = suc p.count; path = (j, record { thread = t; is = m }, p.path) }

  nowhere : (i : ℕ) → Reaches (Steps e.moves) i i
  nowhere i = record { count = 0; path = refl }

  found-further : (i t j : ℕ) (z : S) → Moves e.moves i t j → IsFound k mean e j z → IsFound k mean e i z
  found-further i t j z m f =
      record { state = f.state; path = further i t j f.state m f.path; world = f.world; is = f.is; alike = f.alike }

  found-here : (i : ℕ) (s z : S) → RunOf i s [] z → IsFound k mean e i z
  found-here i s z f = record { state = i; path = nowhere i; world = s; is = f.begins; alike = laws.states.back s z f.runs }

  abbrev EndsWell : ℕ → S → List ℕ → S → Type 0
  EndsWell i s ns z = IsOver k z → IsFound k mean e i z

  pub ends-are-found : EndsAreFound k mean e
  ends-are-found i s ns z f over =
      ways EndsWell
      (λ j v y g _. found-here j v y g)
      (λ j v us y g w h done. found-further j w.thread w.next y w.move (h done))
      (λ j v us y g w h done. absurd (done w.thread (w.end, w.last)))
      i s ns z f over

  both-further : (i t j n u : ℕ) (a b : A) → Moves e.moves i t j → BothAreFound k mean e j n u a b → BothAreFound k mean e i n u a b
  both-further i t j n u a b m f =
      record { state = f.state; path = further i t j f.state m f.path; world = f.world; is = f.is; one = f.one; other = f.other }

  -- Two threads want what conflicts, or they are one.
  abbrev Both : ℕ → S → List ℕ → S → Type 0
  Both i s ns z = (n u : ℕ) (a b : A) → k.wants z n a → k.wants z u b → (n ≡ u) ⊎ k.conflict a b → BothAreFound k mean e i n u a b

  both-beside : (i : ℕ) (s : S) (ns : List ℕ) (z : S) → RunOf i s ns z → (w : Beside i s ns z) → Both w.next w.world ns w.end → Both i s ns z
  both-beside i s ns z f w h n u a b wn wu t = by (cases_Bool (e.goes i n)) (cases_Bool (e.goes i u))
    where
      few_n : n < e.threads
      few_n = x.few_want z n a f.among wn

      few_u : u < e.threads
      few_u = x.few_want z u b f.among wu

      -- Of two that conflict, not only one goes on.
      mixed : (m q : ℕ) (d g : A) → m < e.threads → q < e.threads → e.goes i m ≡ true → e.goes i q ≡ false → k.wants z m d → k.wants z q g
          → (m ≡ q) ⊎ k.conflict d g → BothAreFound k mean e i n u a b
      mixed m q d g fm fq gm gq wm wq (inl same) = absurd (goes-apart k laws mean e x c i m q gm gq (sym same))
      mixed m q d g fm fq gm gq wm wq (inr cf) = absurd (never-both i s ns z f w m q d g fm fq gm gq wm (footprints-hold i s ns z f q g wq) cf)

      flip : (n ≡ u) ⊎ k.conflict a b → (u ≡ n) ⊎ k.conflict b a
      flip (inl same) = inl (sym same)
      flip (inr cf) = inr (laws.mutual_is a b cf)

      still : (m : ℕ) (d : A) → e.goes i m ≡ false → k.wants z m d → k.wants w.end m d
      still m d g wants = waits-still i s ns z f w (footprints-hold w.next w.world ns w.end w.run) m d g wants

      by : (e.goes i n ≡ true) ⊎ (e.goes i n ≡ false) → (e.goes i u ≡ true) ⊎ (e.goes i u ≡ false) → BothAreFound k mean e i n u a b
      by (inl gn) (inl gu) = record {
        state = i;
        path = nowhere i;
        world = s;
        is = f.begins;
        one = ((w.kept n few_n gn).wants a).1 wn;
        other = ((w.kept u few_u gu).wants b).1 wu;
      }
      by (inl gn) (inr gu) = mixed n u a b few_n few_u gn gu wn wu t
      by (inr gn) (inl gu) = mixed u n b a few_u few_n gu gn wu wn (flip t)
      by (inr gn) (inr gu) = both-further i w.thread w.next n u a b w.move (h n u a b (still n a gn wn) (still u b gu wu) t)

  both-found : (i : ℕ) (s : S) (ns : List ℕ) (z : S) → RunOf i s ns z → Both i s ns z
  both-found = ways Both
      (λ i s z f n u a b wn wu t.
      record { state = i; path = nowhere i; world = s; is = f.begins; one = here i s z f n a wn; other = here i s z f u b wu })
      (λ i s ns z f w h n u a b wn wu t. both-further i w.thread w.next n u a b w.move (h n u a b wn wu t))
      both-beside

  pub conflicts-are-found : ConflictsAreFound k mean e
  conflicts-are-found i s ns z f n u a b wn wu cf = both-found i s ns z f n u a b wn wu (inr cf)

  pub wants-are-found : WantsAreFound k mean e
  wants-are-found i s ns z f n a w =
      let r = both-found i s ns z f n n a a w w (inl refl) in
      record { state = r.state; path = r.path; world = r.world; is = r.is; wants = r.one }

  abbrev BackOf : ℕ → S → List ℕ → S → Type 0
  BackOf i s ns z = ComesBack k mean e i z

  pub all-come-back : AllComeBack k mean e
  all-come-back =
      ways BackOf
      (λ i s z f. record { run = []; end = z; among = f.among; runs = laws.states.itself z; found = found-here i s z f })
      (λ i s ns z f w h. record { run = h.run; end = h.end; among = h.among; runs = h.runs; found = found-further i w.thread w.next h.end w.move h.found })
      (λ i s ns z f w h. record {
        run = w.thread ∷ h.run;
        end = h.end;
        among = h.among;
        runs = (w.end, w.last, h.runs);
        found = found-further i w.thread w.next h.end w.move h.found;
      })

  -- One that can go on behind another's step could before.
  can-before : (i : ℕ) (s : S) (ns : List ℕ) (z : S) → RunOf i s ns z → (w : Beside i s ns z) → (n : ℕ) (a : A) → e.goes i n ≡ false → k.wants z n a
      → CanGo k w.end n → CanGo k z n
  can-before i s ns z f w n a g wants can =
      let d = λ (q : w.thread ≡ n). goes-apart k laws mean e x c i w.thread n w.goes_on g (sym q) in
      (laws.kept z w.end n w.thread n f.among d d (inr (a, wants)) w.last apart).can.1 can
    where
      few : n < e.threads
      few = x.few_want z n a f.among wants

      apart : AreApart k z n w.thread
      apart b h (inl wb) wh cf =
          never-both i s ns z f w w.thread n h b w.few few w.goes_on g wh (footprints-hold i s ns z f n b wb) (laws.mutual_is b h cf)
      apart b h (inr hb) wh cf = laws.awake z n a b f.among wants hb

  abbrev CanOf : ℕ → S → List ℕ → S → Type 0
  CanOf i s ns z = (n : ℕ) (a : A) → k.wants z n a → CanGo k z n

  pub all-can-go-on : AllCanGoOn k mean e
  all-can-go-on there =
      ways CanOf
      (λ i s z f n a wants. (laws.states.same s z n (x.among i s f.begins) f.among f.runs).can.0 (there i s f.begins n a (here i s z f n a wants)))
      (λ i s ns z f w h. h)
      (λ i s ns z f w h n a wants. by i s ns z f w h n a wants (cases_Bool (e.goes i n)))
    where
      by : (i : ℕ) (s : S) (ns : List ℕ) (z : S) (f : RunOf i s ns z) (w : Beside i s ns z) → CanOf w.next w.world ns w.end → (n : ℕ) (a : A)
          → k.wants z n a → (e.goes i n ≡ true) ⊎ (e.goes i n ≡ false) → CanGo k z n
      by i s ns z f w h n a wants (inl g) =
          let same = w.kept n (x.few_want z n a f.among wants) g in
          same.can.0 (there i s f.begins n a ((same.wants a).1 wants))
      by i s ns z f w h n a wants (inr g) =
          can-before i s ns z f w n a g wants
          (h n a (waits-still i s ns z f w (footprints-hold w.next w.world ns w.end w.run) n a g wants))
