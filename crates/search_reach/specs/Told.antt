-- Whether a wish that a search ends is obeyed.
use Rattle.std.specs.Prelude.{◌≡◌, ℕ, List, length}
use Rattle.search_reach.specs.declared.follows.Wish.{Wish}
use Rattle.search_reach.specs.declared.follows.Wish.TheVariants as wishes
use Rattle.search_reach.specs.declared.search.Reached.{Reached}
use Rattle.search_reach.specs.declared.search.Verdict.{Verdict}
use Rattle.search_reach.specs.declared.search.Verdict.TheVariants as verdicts

-- Who hears that so many states were met: where it didn't wish the end before and does now, that is where it was told;
-- and who wished it goes on wishing it, told where it was.
pub record HearsStates (met : ℕ) (before : Wish) (told_at : ℕ) (after : Wish) (now : ℕ) : Type 0 where
  pub told : (before ≡ wishes.End → ⊥) → after ≡ wishes.End → now ≡ met
  pub stays : before ≡ wishes.End → (after ≡ wishes.End) × (now ≡ told_at)

-- Where an end was wished in the meantime, the verdict of so many states says so, and none was met behind the wish.
abbrev pub Obeys : Wish → Wish → ℕ → Verdict → ℕ → Type 0
Obeys before after told_at verdict states =
    (before ≡ wishes.End → ⊥) → after ≡ wishes.End → (verdict ≡ verdicts.Told) × (states ≡ told_at)

-- It is so of as many states as a table has.
abbrev pub OfCount : {S : Type 0} → (List S → Type 0) → (ℕ → Type 0) → Type 0
OfCount has so = (ks : List _) → has ks → so (length ks)

-- With this verdict a search of so many states obeyed, whose follower wished this in the end, if it wished that before.
abbrev pub HadObeyed : Wish → ℕ → Verdict → ℕ → Wish → Type 0
HadObeyed after told_at verdict states before = Obeys before after told_at verdict states

-- What a search found obeyed so, of as many states as its table has.
abbrev pub HasObeyed : {S T : Type 0} → (T → List S → Type 0) → Wish → ℕ → Reached T → Wish → Type 0
HasObeyed holds after told_at r before = OfCount (holds r.table) (Obeys before after told_at r.verdict)

-- What goes on behind a search keeps it so: where that obeyed, this does.
abbrev pub StillObeys : (Wish → Type 0) → Wish → ℕ → Verdict → ℕ → Type 0
StillObeys so after told_at verdict states = (before : Wish) → so before → Obeys before after told_at verdict states
