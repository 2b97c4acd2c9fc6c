-- Links, one behind the other.
use Rattle.std.proofs.Common.{◌≡◌, ◌∙◌, ℕ, ◌+◌, ◌<◌, ◌&&◌, Bool, true, false, cond, ltb, List, [], ◌∷◌, ◌++◌, length, take, get_or}
use Rattle.std.proofs.Common.{Option, Some, None, All, append_assoc, refl, sym, ap, subst, arith}
use Rattle.std.proofs.lemmas.Bool.{and_parts}
use Rattle.std.proofs.lemmas.Bool.Decides.{nat_tests}
use Rattle.std.proofs.lemmas.List.{take_more, map-id}
use Rattle.std.proofs.lemmas.List.Elements.{All-nil, All-cons, All-append, filter_map-append}
use Rattle.std.specs.List.{filter_map, range_with_len}
use Rattle.std.specs.Option.{option_to_list}
use Rattle.std.proofs.lemmas.List.FromFn.{map-range_with_len_more}
use Rattle.types.specs.declared.event.Entry.{Entry}
use Rattle.race_history.specs.declared.race.Race.{Race}
use Rattle.show_text.specs.declared.context.Context.{Context}
use Rattle.show_text.specs.declared.woken.Wake.{Wake}
use Rattle.show_events.specs.declared.links.Link.{Link}
use Rattle.show_events.specs.declared.links.LinkKind.{LinkKind}
use Rattle.show_events.specs.declared.links.LinkKind.TheVariants as kinds
use Rattle.show_events.specs.Forward.{IsForward}
use Rattle.show_rows.specs.declared.listing.Story.{Story}
use Rattle.show_events.specs.Links.{link_between, in_list, wake_link, spawned_at, spawn_link, race_link, AreAnswers, AreFirsts, AreLinks}

single : {X Y : Type 0} (h : X → Option Y) (x : X) (o : Option Y) → h x ≡ o → filter_map h (x ∷ []) ≡ option_to_list o
single h x None e = simp e
single h x (Some y) e = simp e

one_behind : {X Y : Type 0} (h : X → Option Y) (xs : List X) (x : X) (o : Option Y) (a b c : List Y) → o ≡ h x
    → b ≡ a ++ filter_map h xs → c ≡ b ++ option_to_list o → c ≡ a ++ filter_map h (xs ++ x ∷ [])
one_behind {X} {Y} h xs x o a b c gives before adds =
    let here : List Y = filter_map h xs in
    let last : List Y = option_to_list o in
    let more : filter_map h (xs ++ x ∷ []) ≡ here ++ last =
    filter_map-append h xs (x ∷ []) ∙ ap (λ (ys : List Y). here ++ ys) (single h x o (sym gives)) in
    adds ∙ (ap (λ (ys : List Y). ys ++ last) before
    ∙ (append_assoc a here last ∙ ap (λ (ys : List Y). a ++ ys) (sym more)))

-- One more, where what is added is what its item gives.
added_next : {X Y : Type 0} (h : X → Option Y) (xs : List X) (k : ℕ) (d : X) (o : Option Y) (a b c : List Y) → k < length xs
    → o ≡ h (get_or xs k d) → b ≡ a ++ filter_map h (take k xs) → c ≡ b ++ option_to_list o
    → c ≡ a ++ filter_map h (take (k + 1) xs)
added_next {X} h xs k d o a b c lt gives before adds =
    let e : take (k + 1) xs ≡ take k xs ++ get_or xs k d ∷ [] = take_more xs k d lt in
    subst (λ (ys : List X). c ≡ a ++ filter_map h ys) (sym e) (one_behind h (take k xs) (get_or xs k d) o a b c gives before adds)

pub wake_next : (long : ℕ) (answers : List (Option ℕ)) (wakes : List Wake) (k : ℕ) (d : Wake) (told : Option ℕ) (link : Option Link)
    (a b c : List Link) → k < length wakes → told ≡ in_list answers (get_or wakes k d).wait
    → link ≡ link_between long kinds.Wake (get_or wakes k d).notify told → b ≡ a ++ filter_map (wake_link long answers) (take k wakes)
    → c ≡ b ++ option_to_list link → c ≡ a ++ filter_map (wake_link long answers) (take (k + 1) wakes)
wake_next long answers wakes k d told link a b c lt is gives before adds = added_next (wake_link long answers) wakes k d link a b c lt
    (gives ∙ ap (link_between long kinds.Wake (get_or wakes k d).notify) is) before adds

pub race_next : (long : ℕ) (races : List Race) (k : ℕ) (d : Race) (link : Option Link) (a b c : List Link) → k < length races
    → link ≡ link_between long kinds.Race (get_or races k d).first (Some (get_or races k d).second)
    → b ≡ a ++ filter_map (race_link long) (take k races) → c ≡ b ++ option_to_list link
    → c ≡ a ++ filter_map (race_link long) (take (k + 1) races)
race_next long races k d link a b c lt gives before adds = added_next (race_link long) races k d link a b c lt gives before adds

range_more : (n : ℕ) → range_with_len 0 (n + 1) ≡ range_with_len 0 n ++ n ∷ []
range_more n =
    let same : ℕ → ℕ = λ k. k in
    sym (map-id (range_with_len 0 (n + 1))) ∙ (map-range_with_len_more same 0 n n (omega arith)
    ∙ ap (λ (ks : List ℕ). ks ++ n ∷ []) (map-id (range_with_len 0 n)))

-- The same of numbers from 0 on.
counted_next : {Y : Type 0} (h : ℕ → Option Y) (k : ℕ) (o : Option Y) (a b c : List Y) → o ≡ h k
    → b ≡ a ++ filter_map h (range_with_len 0 k) → c ≡ b ++ option_to_list o → c ≡ a ++ filter_map h (range_with_len 0 (k + 1))
counted_next h k o a b c gives before adds =
    subst (λ (ks : List ℕ). c ≡ a ++ filter_map h ks) (sym (range_more k)) (one_behind h (range_with_len 0 k) k o a b c gives before adds)

pub spawn_next : (log : List Entry) (contexts : List Context) (firsts : List (Option ℕ)) (at : ℕ) (first : Option ℕ)
    (link : Option Link) (a b c : List Link) → first ≡ spawned_at log contexts firsts at
    → link ≡ link_between (length log) kinds.Spawn at first
    → b ≡ a ++ filter_map (spawn_link log contexts firsts) (range_with_len 0 at) → c ≡ b ++ option_to_list link
    → c ≡ a ++ filter_map (spawn_link log contexts firsts) (range_with_len 0 (at + 1))
spawn_next log contexts firsts at first link a b c is gives before adds = counted_next (spawn_link log contexts firsts) at link a b c
    (gives ∙ ap (link_between (length log) kinds.Spawn at) is) before adds

-- Each link that leads from one entry to another leads forward.
forward_by : (long : ℕ) (kind : LinkKind) (from to : ℕ) (b : Bool) → b ≡ (ltb from to && ltb to long) → (link : Link)
    → cond b (Some (record { kind = kind; from = from; to = to })) None ≡ Some link → IsForward long link
forward_by long kind from to false test link is = absurd (cc is)
forward_by long kind from to true test link is =
    let made : Link = record { kind = kind; from = from; to = to } in
    let same : made ≡ link = cc is in
    let both = and_parts (ltb from to) (ltb to long) (sym test) in
    let ahead : IsForward long made = (grind (arith, nat_tests, both.0), grind (arith, nat_tests, both.1)) in
    subst (IsForward long) same ahead

forward : (long : ℕ) (kind : LinkKind) (from : ℕ) (to : Option ℕ) (link : Link) → link_between long kind from to ≡ Some link
    → IsForward long link
forward long kind from None link is = absurd (cc is)
forward long kind from (Some to) link is = forward_by long kind from to (ltb from to && ltb to long) refl link is

all_forward_by : {X : Type 0} (long : ℕ) (h : X → Option Link) (x : X) (xs : List X) (o : Option Link) → h x ≡ o
    → ((link : Link) → o ≡ Some link → IsForward long link) → All (IsForward long) (filter_map h xs)
    → All (IsForward long) (filter_map h (x ∷ xs))
all_forward_by long h x xs None e ahead all = simp e all
all_forward_by long h x xs (Some link) e ahead all =
    simp e (All-cons (IsForward long) link (filter_map h xs) (ahead link refl) all)

all_forward : {X : Type 0} (long : ℕ) (kind : LinkKind) (from : X → ℕ) (to : X → Option ℕ) (xs : List X)
    → All (IsForward long) (filter_map (λ x. link_between long kind (from x) (to x)) xs)
all_forward long kind from to [] = All-nil (IsForward long)
all_forward long kind from to (x ∷ xs) =
    all_forward_by long (λ y. link_between long kind (from y) (to y)) x xs (link_between long kind (from x) (to x)) refl
    (forward long kind (from x) (to x)) (all_forward long kind from to xs)

-- So does each link of a list to which these were added one after the other.
pub all_ahead : (log : List Entry) (contexts : List Context) (answers firsts : List (Option ℕ)) (wakes : List Wake)
    (races : List Race) (m n : ℕ) (a b c d : List Link) → m ≡ length log → n ≡ length log → a ≡ []
    → b ≡ a ++ filter_map (wake_link m answers) wakes
    → c ≡ b ++ filter_map (spawn_link log contexts firsts) (range_with_len 0 (length log))
    → d ≡ c ++ filter_map (race_link n) races → All (IsForward (length log)) d
all_ahead log contexts answers firsts wakes races m n a b c d m_is n_is a_is b_is c_is d_is =
    let ahead : List Link → Type 0 = λ ls. All (IsForward (length log)) ls in
    let none : ahead a = subst ahead (sym a_is) (All-nil (IsForward (length log))) in
    let woken : ahead (filter_map (wake_link m answers) wakes) =
    subst (λ (k : ℕ). All (IsForward (length log)) (filter_map (wake_link k answers) wakes)) (sym m_is)
    (all_forward (length log) kinds.Wake (λ wake. wake.notify) (λ wake. in_list answers wake.wait) wakes) in
    let spawned : ahead (filter_map (spawn_link log contexts firsts) (range_with_len 0 (length log))) =
    all_forward (length log) kinds.Spawn (λ at. at) (λ at. spawned_at log contexts firsts at) (range_with_len 0 (length log)) in
    let raced : ahead (filter_map (race_link n) races) =
    subst (λ (k : ℕ). All (IsForward (length log)) (filter_map (race_link k) races)) (sym n_is)
    (all_forward (length log) kinds.Race (λ race. race.first) (λ race. Some race.second) races) in
    let first : ahead b = subst ahead (sym b_is) (All-append (IsForward (length log)) a _ none woken) in
    let second : ahead c = subst ahead (sym c_is) (All-append (IsForward (length log)) b _ first spawned) in
    subst ahead (sym d_is) (All-append (IsForward (length log)) c _ second raced)

-- They are the links of the log, where what they were made of is what is known of it.
pub links_are : (log : List Entry) (story : Story) (races : List Race) (told contexts : List Context)
    (answers taken firsts found : List (Option ℕ)) (wakes : List Wake) (a b c d : List Link) → told ≡ story.contexts.items
    → AreAnswers told (length log) answers → taken ≡ answers → AreFirsts log firsts → found ≡ firsts
    → contexts ≡ story.contexts.items → wakes ≡ story.wakes.all.items → a ≡ []
    → b ≡ a ++ filter_map (wake_link (length log) taken) wakes
    → c ≡ b ++ filter_map (spawn_link log contexts found) (range_with_len 0 (length log))
    → d ≡ c ++ filter_map (race_link (length log)) races → AreLinks log story races d
links_are log story races told contexts answers taken firsts found wakes a b c d told_is are_answers taken_is are_firsts found_is
    contexts_is wakes_is a_is b_is c_is d_is =
    let woken : List (Option ℕ) → List Wake → List Link = λ xs ws. filter_map (wake_link (length log) xs) ws in
    let spawned : List Context → List (Option ℕ) → List Link =
    λ cs xs. filter_map (spawn_link log cs xs) (range_with_len 0 (length log)) in
    let by_wakes : woken taken wakes ≡ woken answers story.wakes.all.items =
    ap (λ (xs : List (Option ℕ)). woken xs wakes) taken_is ∙ ap (λ (ws : List Wake). woken answers ws) wakes_is in
    let by_spawns : spawned contexts found ≡ spawned story.contexts.items firsts =
    ap (λ (cs : List Context). spawned cs found) contexts_is ∙ ap (λ (xs : List (Option ℕ)). spawned story.contexts.items xs) found_is in
    let first : b ≡ woken answers story.wakes.all.items =
    b_is ∙ (ap (λ (ls : List Link). ls ++ woken taken wakes) a_is ∙ by_wakes) in
    let second : c ≡ woken answers story.wakes.all.items ++ spawned story.contexts.items firsts =
    c_is ∙ (ap (λ (ls : List Link). ls ++ spawned contexts found) first
    ∙ ap (λ (ls : List Link). woken answers story.wakes.all.items ++ ls) by_spawns) in
    record {
      answers = answers;
      are_answers = subst (λ (cs : List Context). AreAnswers cs (length log) answers) told_is are_answers;
      firsts = firsts;
      are_firsts = are_firsts;
      are = d_is ∙ ap (λ (ls : List Link). ls ++ filter_map (race_link (length log)) races) second;
    }
