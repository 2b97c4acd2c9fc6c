-- What is told of where threads stand.
use Rattle.std.proofs.Common.{ℕ, ◌≡◌, ◌<◌, ◌≤◌, ◌⊎◌, ◌++◌, ◌∙◌, List, Option, Some, codes, length, slice_get, slice_index_or, ap, subst, sym}
use Rattle.std.specs.Fmt.{decimal}
use Rattle.std.specs.List.{AllZip, concat}
use Rattle.std.specs.Io.KnownBytes.{Appends, Keeps}
use Rattle.std.proofs.lemmas.List.{take_all}
use Rattle.std.proofs.lemmas.Option.{slice_get-get_or}
use Rattle.types.specs.declared.outcome.Stop.{Stop}
use Rattle.types.specs.declared.outcome.Outcome.{Outcome}
use Rattle.types.specs.declared.outcome.Outcome.TheVariants as outcomes
use Rattle.types.specs.declared.outcome.ThreadReport.{ThreadReport}
use Rattle.types.specs.Outcomes.{outcome_text}
use Rattle.selection.specs.declared.spans.Spans.{Spans}
use Rattle.show_rows.proofs.Texts.{AreWritten, all_written}
use Rattle.show_rows.specs.declared.listing.Shown.{Shown}
use Rattle.show_rows.specs.declared.listing.Story.{Story}
use Rattle.show_rows.specs.Listing.{line_at}
use Rattle.show_named.specs.declared.data_map.DataMap.{DataMap}
use Rattle.show_named.specs.Rows.{IsEntryText}
use Rattle.show_named.specs.declared.lasts.Act.TheVariants as acts
use Rattle.show_waits.specs.declared.stands.Stand.{Stand}
use Rattle.show_named.specs.LastTexts.{SaysLast}
use Rattle.show_waits.specs.CycleTexts.{AreCycles, WritesCycles}
use Rattle.show_waits.specs.Waits.{SaysEnd, SaysNowhere, SaysOther, SaysStand, SaysStandAt, SaysWait, times_text}

-- the text, by the number of the line
abbrev stand_words : ℕ → List ℕ → ℕ → List ℕ → List ℕ → List ℕ → List ℕ
stand_words times last line written other notified = last ++ (codes "\n  touches nothing else since entry " ++ (decimal line
    ++ (codes " (" ++ (times_text times ++ (codes ")\n  last write there: " ++ (written
    ++ (codes "\n" ++ (other ++ (codes "  last notify there: " ++ (notified ++ codes "\n"))))))))))

module _ (shown : Shown) (map : DataMap) (story : Story) (n : ℕ) (stand : Stand) where
  pub says_stand : (line : ℕ) (last written other notified text : List ℕ) → line ≡ line_at shown stand.since
      → IsEntryText shown map story stand.last last
      → SaysLast shown map story (length shown.record.now.log) (acts.Write stand.addrs) (codes "nobody") written
      → SaysOther shown map story n stand.addrs other
      → SaysLast shown map story (length shown.record.now.log) (acts.Notify stand.addrs.first) (codes "nobody") notified
      → text ≡ stand_words stand.times last line written other notified
      → SaysStandAt shown map story n stand text
  says_stand line last written other notified text line_is last_is written_is other_is notified_is words = record {
    last = last;
    last_is = last_is;
    written = written;
    written_is = written_is;
    other = other;
    other_is = other_is;
    notified = notified;
    notified_is = notified_is;
    words = words ∙ ap (λ k. stand_words stand.times last k written other notified) line_is;
  }

-- of a thread that was stopped, by its report
pub says_stopped : (shown : Shown) (map : DataMap) (story : Story) (out : Option Spans) (n : ℕ) (ends : List ThreadReport) (d : ThreadReport) (stop : Stop) (place text : List ℕ)
    → ends ≡ shown.record.now.ends → n < length shown.record.now.ends → (slice_index_or ends n d).outcome ≡ outcomes.Stop stop
    → (SaysStand shown map story out n place ⊎ SaysNowhere shown out n place)
    → text ≡ codes "t" ++ (decimal n ++ (codes ": " ++ (outcome_text (slice_index_or ends n d).outcome ++ (codes ": " ++ place))))
    → SaysWait shown map story out n text
says_stopped shown map story out n ends d stop place text same within ended says words =
    let at : slice_get shown.record.now.ends n ≡ Some (slice_index_or ends n d) =
    subst (λ (l : List ThreadReport). slice_get l n ≡ Some (slice_index_or ends n d)) same
    (slice_get-get_or ends n d (subst (λ (l : List ThreadReport). n < length l) (sym same) within)) in (
      slice_index_or ends n d,
      at,
      subst (λ (o : Outcome). SaysEnd shown map story out n o text) (sym ended)
          (place, says, words ∙ ap (λ (o : Outcome). codes "t" ++ (decimal n ++ (codes ": " ++ (outcome_text o ++ (codes ": " ++ place))))) ended),
    )

-- all paragraphs, and nothing behind them
pub all_told : {X : Type 0} (Q : X → List ℕ → Type 0) (xs : List X) (n : ℕ) (a b : Option (List ℕ)) → length xs ≤ n
    → AreWritten Q xs n a b → (texts : List (List ℕ)) × AllZip Q xs texts × Appends a b (concat texts)
all_told {X} Q xs n a b le (texts, all, wrote) = (texts, subst (λ (ys : List X). AllZip Q ys texts) (take_all n xs le) all, wrote)

-- all paragraphs, and the cycles behind them
pub all_and_cycles : (shown : Shown) (out : Option Spans) (Q : ℕ → List ℕ → Type 0) (xs : List ℕ) (n : ℕ) (a b c d : Option (List ℕ)) → length xs ≤ n
    → AreWritten Q xs n a b → WritesCycles shown out b c → Keeps c d
    → (texts : List (List ℕ)) × AllZip Q xs texts × (cycles : List (List ℕ)) × AreCycles shown out cycles
    × Appends a d (concat texts ++ concat cycles)
all_and_cycles shown out Q xs n a b c d le told (cycles, are, more) last =
    let (texts, all, wrote) = all_written Q xs n (concat cycles) a b c d le told more last in
    (texts, all, cycles, are, wrote)
