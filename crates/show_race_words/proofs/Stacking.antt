-- Places of entries, and the lines of their calls, by what was read.
use Rattle.std.proofs.Common.{◌≡◌, ◌∙◌, ◌<◌, ◌≤◌, ◌+◌, ◌==◌, ◌++◌, ℕ, Bool, true, false, List, [], ◌∷◌, Option}
use Rattle.std.proofs.Common.{ap, arith, codes, get_or, length, refl, subst, sym, take}
use Rattle.std.specs.List.{concat}
use Rattle.std.specs.Fmt.{decimal}
use Rattle.std.proofs.lemmas.Bool.{both_ways, eqb-true}
use Rattle.std.proofs.lemmas.List.{append-nil, take_all}
use Rattle.std.proofs.lemmas.List.Folds.{concat-append}
use Rattle.types.specs.declared.event.Entry.{Entry}
use Rattle.interp.specs.declared.place.CodePlace.{CodePlace}
use Rattle.race_history.specs.declared.race.Race.{Race}
use Rattle.show_rows.specs.declared.listing.Shown.{Shown}
use Rattle.show_rows.specs.declared.listing.Story.{Story}
use Rattle.show_rows.specs.Listing.{IsPlaceText, line_at, place_of}
use Rattle.show_rows.proofs.Zipped.{zip_next}
use Rattle.show_stacks.specs.declared.texts.StacksView.{StacksView}
use Rattle.show_stacks.specs.Stacks.{calls_at}
use Rattle.show_stacks.specs.Texts.{IsCallsText, IsStackText}
use Rattle.show_race_words.specs.declared.blocks.Block.{Block}
use Rattle.show_race_words.specs.Blocks.{IsBlockLine, block_line, own_place}
use Rattle.show_race_words.specs.Stacks.{AddsPlaces, ArePlacesOf, AreStackPlaces, IsLineOfCalls, IsStackLine}
use Rattle.show_race_words.proofs.Telling.{stands}

-- Those of the first so many races.
module _ (shown : Shown) (pairs : List Race) where
  pub places_next : (k : ℕ) (z r : Race) (old new : List ℕ) → k < length pairs → r ≡ get_or pairs k z
      → AreStackPlaces shown (take k pairs) old → AddsPlaces shown r old new
      → AreStackPlaces shown (take (k + 1) pairs) new
  places_next k z r old new lt is (each, all, are) (places, places_are, adds) = (
    each ++ places ∷ [],
    zip_next (ArePlacesOf shown) pairs each k z r places lt is all places_are,
    adds ∙ (ap (λ (l : List ℕ). l ++ places) are
        ∙ sym (concat-append each (places ∷ []) ∙ ap (λ (l : List ℕ). concat each ++ l) (append-nil places))),
  )

  pub places_of_all : (n : ℕ) (whole : List Race) (places : List ℕ) → length pairs ≤ n → pairs ≡ whole
      → AreStackPlaces shown (take n pairs) places → AreStackPlaces shown whole places
  places_of_all n whole places le same are =
      subst (λ (l : List Race). AreStackPlaces shown l places) (take_all n pairs le ∙ same) are

module _ (shown : Shown) (story : Story) (stacks : StacksView) (thread at : ℕ) where
  line_of : (calls spot text : List ℕ) → (length calls == 0) ≡ false → IsPlaceText stacks.code.now (place_of shown story at) spot
      → text ≡ codes "  t" ++ (decimal thread ++ (codes " was in " ++ (spot ++ (calls ++ codes "\n"))))
      → IsLineOfCalls stacks.code.now (place_of shown story at) thread calls text
  line_of [] spot text some is e = absurd (both_ways true some refl)
  line_of (c ∷ calls) spot text some is e = (spot, is, e)

  -- no call is told
  pub none_by : (calls text : List ℕ) → IsCallsText stacks.code.now (calls_at stacks.stacks.now at) calls
      → (length calls == 0) ≡ true → text ≡ [] → IsStackLine shown story stacks thread at text
  none_by [] text led none e = ([], led, e)
  none_by (c ∷ calls) text led none e =
      let same : length (c ∷ calls) ≡ 0 = eqb-true (length (c ∷ calls)) 0 none in absurd (omega arith)

  pub line_by : (place : Option CodePlace) (calls spot text : List ℕ) → IsCallsText stacks.code.now (calls_at stacks.stacks.now at) calls
      → (length calls == 0) ≡ false → place ≡ place_of shown story at → IsPlaceText stacks.code.now place spot
      → text ≡ codes "  t" ++ (decimal thread ++ (codes " was in " ++ (spot ++ (calls ++ codes "\n"))))
      → IsStackLine shown story stacks thread at text
  line_by place calls spot text led some there is e = (
    calls,
    led,
    line_of calls spot text some (subst (λ (p : Option CodePlace). IsPlaceText stacks.code.now p spot) there is) e,
  )

-- The line of a block, by the entry that was read.
pub block_line_by : (shown : Shown) (stacks : StacksView) (block : Block) (log : List Entry) (d : Entry)
    (place : Option CodePlace) (line : ℕ) (stack text : List ℕ) → log ≡ shown.record.now.log
    → block.at < length shown.record.now.log → place ≡ own_place shown block.at → line ≡ line_at shown block.at
    → IsStackText stacks.code.now place (calls_at stacks.stacks.now block.at) stack
    → text ≡ block_line block.byte block.into (get_or log block.at d).thread line stack → IsBlockLine shown stacks block text
block_line_by shown stacks block log d place line stack text same within there counted is_stack is = record {
  made = get_or log block.at d;
  stands = stands log shown.record.now.log block.at d same within;
  stack = stack;
  stack_is = subst (λ (p : Option CodePlace). IsStackText stacks.code.now p (calls_at stacks.stacks.now block.at) stack) there
      is_stack;
  is = is ∙ ap (λ (n : ℕ). block_line block.byte block.into (get_or log block.at d).thread n stack) counted;
}
