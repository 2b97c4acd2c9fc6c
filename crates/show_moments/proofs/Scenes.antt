-- What is told of a moment, one thing behind the other.
use Rattle.std.proofs.Common.{◌≡◌, ◌∙◌, ℕ, suc, ◌+◌, ◌<◌, ◌≤◌, Bool, true, false, List, [], ◌∷◌, ◌++◌, length, take, get_or, map}
use Rattle.std.proofs.Common.{cond, not, ◌||◌, Option, Some, None, option_to_list, filter_map, append_assoc, append-nil, refl, sym, ap, subst, arith}
use Rattle.std.proofs.lemmas.List.{take_more, take_all}
use Rattle.std.proofs.lemmas.List.Elements.{filter_map-append}
use Rattle.std.proofs.lemmas.List.FromFn.{length-enumerate_from, get_or-enumerate_from}
use Rattle.std.specs.List.{AllZip, enumerate_from, slice_get}
use Rattle.types.specs.declared.value.ValType.{ValType}
use Rattle.dwarf_frames.specs.declared.values.FrameValue.{FrameValue}
use Rattle.show_rows.proofs.Zipped.{zip_next}
use Rattle.show_told.specs.declared.functions.ToldFunction.{ToldFunction}
use Rattle.show_told.specs.declared.values.ToldValue.{ToldValue}
use Rattle.show_told.specs.declared.values.TypedWord.{TypedWord}
use Rattle.show_moments.specs.declared.standing.ThreadSnapshot.{ThreadSnapshot}
use Rattle.show_moments.specs.declared.standing.OpenFunction.{OpenFunction}
use Rattle.show_moments.specs.declared.told.ToldThread.{ToldThread}
use Rattle.show_moments.specs.Scenes.{Seen, AreFunctions, AreThreads, AreValues, IsFunctionOf, IsThread, IsValue}
use Rattle.show_moments.specs.Scenes.{IsNextIfAny, IsNumber, IsThreadBy, IsToldOf, IsValueBy}
use Rattle.dwarf_frames.specs.declared.frames.CallFrame.{CallFrame}
use Rattle.show_moments.specs.Scenes.{is_spawned, listed, typed_word, typed_words}
use Rattle.show_moments.specs.Values.{has_parts, number_of}

-- Threads, from 0 on.
pub no_threads : (s : Seen) (told : List ToldThread) → told ≡ [] → AreThreads s 0 told
unfolding AreThreads
no_threads s told none = none

pub threads_next : (s : Seen) (n : ℕ) (front told : List ToldThread) (last : Option ToldThread) → told ≡ front ++ option_to_list last
    → AreThreads s n front → IsThread s n last → AreThreads s (n + 1) told
unfolding AreThreads
threads_next s n front told last is before step =
    let e : suc n ≡ n + 1 = omega arith in
    subst (λ (k : ℕ). AreThreads s k told) e (front, last, is, before, step)

-- Open functions, from the highest number down: with those below a number behind them, they are all.
abbrev pub Ends : Seen → ThreadSnapshot → ℕ → ℕ → List ToldFunction → Type 0
Ends s standing all number told =
    (others : List ToldFunction) → AreFunctions s standing number others → AreFunctions s standing all (told ++ others)

pub ends_first : (s : Seen) (standing : ThreadSnapshot) (all number : ℕ) (told : List ToldFunction) → number ≡ all → told ≡ []
    → Ends s standing all number told
ends_first s standing all number told is none = λ others rest.
    subst (λ (fs : List ToldFunction). AreFunctions s standing all (fs ++ others)) (sym none)
    (subst (λ (n : ℕ). AreFunctions s standing n others) is rest)

pub ends_next : (s : Seen) (standing : ThreadSnapshot) (all above number : ℕ) (told more : List ToldFunction) (f : ToldFunction)
    → above ≡ number + 1 → more ≡ told ++ f ∷ [] → Ends s standing all above told → IsFunctionOf s standing number f
    → Ends s standing all number more
ends_next s standing all above number told more f is adds before step = λ others rest.
    let e : suc number ≡ above = omega (arith, is) in
    let these : told ++ f ∷ others ≡ more ++ others =
    sym (append_assoc told (f ∷ []) others) ∙ ap (λ (fs : List ToldFunction). fs ++ others) (sym adds) in
    subst (λ (fs : List ToldFunction). AreFunctions s standing all fs) these
    (before (f ∷ others) (subst (λ (n : ℕ). AreFunctions s standing n (f ∷ others)) e (f, others, refl, step, rest)))

pub ends_all : (s : Seen) (standing : ThreadSnapshot) (all number : ℕ) (told : List ToldFunction) → number ≤ 0
    → Ends s standing all number told → AreFunctions s standing all told
ends_all s standing all number told le before =
    let e : 0 ≡ number = omega (arith, le) in
    subst (λ (fs : List ToldFunction). AreFunctions s standing all fs) (append-nil told)
    (before [] (subst (λ (n : ℕ). AreFunctions s standing n []) e refl))

-- Values, from the first on.
one_given : {X : Type 0} (o : Option X) → filter_map (λ (x : Option X). x) (o ∷ []) ≡ option_to_list o
one_given None = refl
one_given (Some x) = refl

pub no_values : (s : Seen) (o : OpenFunction) (told : List ToldValue) → told ≡ [] → AreValues s o [] told
no_values s o told none = ([], tt, none)

pub values_next : (s : Seen) (o : OpenFunction) (values : List FrameValue) (k : ℕ) (z v : FrameValue) (one : Option ToldValue)
    (told more : List ToldValue) → k < length values → v ≡ get_or values k z → AreValues s o (take k values) told
    → IsValue s o v one → more ≡ told ++ option_to_list one → AreValues s o (take (k + 1) values) more
values_next s o values k z v one told more lt is (all, each, are) step adds = (
  all ++ one ∷ [],
  zip_next (IsValue s o) values all k z v one lt is each step,
  adds ∙ (ap (λ (vs : List ToldValue). vs ++ option_to_list one) are
      ∙ (ap (λ (vs : List ToldValue). filter_map (λ (x : Option ToldValue). x) all ++ vs) (sym (one_given one))
      ∙ sym (filter_map-append (λ (x : Option ToldValue). x) all (one ∷ [])))),
)

pub values_all : (s : Seen) (o : OpenFunction) (values : List FrameValue) (k : ℕ) (told : List ToldValue) → length values ≤ k
    → AreValues s o (take k values) told → AreValues s o values told
values_all s o values k told le all = subst (λ (vs : List FrameValue). AreValues s o vs told) (take_all k values le) all

-- Words with their types, from the first on.
map_push : {X Y : Type 0} (f : X → Y) (xs : List X) (x : X) → map f (xs ++ x ∷ []) ≡ map f xs ++ f x ∷ []
map_push f [] x = refl
map_push f (y ∷ ys) x = ap (λ zs. f y ∷ zs) (map_push f ys x)

pub typed_next : (types : List ValType) (words : List ℕ) (k : ℕ) (z : ℕ) (of : Option ValType) (typed more : List TypedWord)
    → k < length words → of ≡ slice_get types k → typed ≡ map (typed_word types) (take k (enumerate_from 0 words))
    → more ≡ typed ++ record { of = of; word = get_or words k z } ∷ []
    → more ≡ map (typed_word types) (take (k + 1) (enumerate_from 0 words))
typed_next types words k z of typed more lt is before adds =
    let pairs = enumerate_from 0 words in
    let number : k ≡ 0 + k = omega arith in
    let pair : get_or pairs k (0, z) ≡ (k, get_or words k z) =
    get_or-enumerate_from 0 words k (0, z) lt ∙ ap (λ (n : ℕ). (n, get_or words k z)) (sym number) in
    let e : take (k + 1) pairs ≡ take k pairs ++ (k, get_or words k z) ∷ [] =
    take_more pairs k (0, z) (omega (arith, lt, length-enumerate_from 0 words))
    ∙ ap (λ (p : ℕ × ℕ). take k pairs ++ p ∷ []) pair in
    let word : Option ValType → TypedWord = λ o. record { of = o; word = get_or words k z } in
    adds ∙ (ap (λ (ws : List TypedWord). ws ++ word of ∷ []) before
    ∙ (ap (λ (o : Option ValType). map (typed_word types) (take k pairs) ++ word o ∷ []) is
    ∙ (sym (map_push (typed_word types) (take k pairs) (k, get_or words k z)) ∙ ap (map (typed_word types)) (sym e))))

pub typed_all : (types : List ValType) (words : List ℕ) (k : ℕ) (typed : List TypedWord) → length words ≤ k
    → typed ≡ map (typed_word types) (take k (enumerate_from 0 words)) → typed ≡ typed_words words types
typed_all types words k typed le is = is ∙ ap (map (typed_word types))
    (take_all k (enumerate_from 0 words) (omega (arith, le, length-enumerate_from 0 words)))

-- A thread that wasn't spawned, and one that was.
pub not_spawned : (s : Seen) (thread : ℕ) (b : Bool) → b ≡ is_spawned s.moment.queue thread → b ≡ false → IsThread s thread None
not_spawned s thread b is not = subst (λ (x : Bool). IsThreadBy s thread x None) (sym not ∙ is) tt

pub spawned : (s : Seen) (thread : ℕ) (b : Bool) (told : ToldThread) → b ≡ is_spawned s.moment.queue thread → b ≡ true
    → told.thread ≡ thread → IsNextIfAny s thread told.next → IsThread s thread (Some told)
spawned s thread b told is there same next = subst (λ (x : Bool). IsThreadBy s thread x (Some told)) (sym there ∙ is) (same, next)

-- A value that is a number there, one that isn't, and one with parts.
pub parts_told : (s : Seen) (o : OpenFunction) (v : FrameValue) (b : Bool) (told : ToldValue) → b ≡ has_parts v.kind → b ≡ true
    → IsToldOf v None None told → IsValue s o v (Some told)
parts_told s o v b told is has says = subst (λ (x : Bool). IsValueBy s o v x (Some told)) (sym has ∙ is) says

pub number_told : (s : Seen) (o : OpenFunction) (v : FrameValue) (b : Bool) (found : Option ℕ) (told : Option ToldValue)
    → b ≡ has_parts v.kind → b ≡ false → found ≡ number_of o s.moment.memory.items v → IsNumber s v found told → IsValue s o v told
number_told s o v b found told is not number says = subst (λ (x : Bool). IsValueBy s o v x told) (sym not ∙ is)
    (subst (λ (n : Option ℕ). IsNumber s v n told) number says)

-- Words are listed where that is asked for, or no functions are known.
pub listed_told : (s : Seen) (frame : CallFrame) (b : Bool) (words : List ℕ) (types kinds : List ValType) (typed : List TypedWord)
    → typed ≡ cond b (typed_words words types) [] → b ≡ (s.raw || not frame.is_known) → types ≡ kinds
    → typed ≡ listed s frame words kinds
listed_told s frame b words types kinds typed is b_is same =
    is ∙ (ap (λ (x : Bool). cond x (typed_words words types) []) b_is
    ∙ ap (λ (ts : List ValType). cond (s.raw || not frame.is_known) (typed_words words ts) []) same)
