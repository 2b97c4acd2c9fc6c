-- What objects of a moment and of an end are made of.
use Rattle.std.proofs.Common.{◌≡◌, ◌==◌, ℕ, zero, suc, ◌<◌, Bool, true, false, List, [], ◌∷◌, length, All, flat_map, option_to_list, slice_index_or}
use Rattle.std.proofs.Common.{Option, Some, None, not, if◌then◌else◌, refl, sym, subst, arith}
use Rattle.std.specs.Io.KnownBytes.{Appends, Keeps}
use Rattle.std.proofs.lemmas.Bool.{false≢true}
use Rattle.std.proofs.lemmas.List.Concat.{flat_map-cons}
use Rattle.std.proofs.lemmas.List.Elements.{All-append}
use Rattle.types.specs.declared.event.Entry.{Entry}
use Rattle.race_history.specs.declared.race.Race.{Race}
use Rattle.show_json.specs.declared.moments.LastRow.{LastRow}
use Rattle.show_moments.specs.Scenes.{Seen, others_of}
use Rattle.show_moments.specs.Texts.{dump_text}
use Rattle.show_races.specs.Told.{IsWithin}
use Rattle.show_rows.proofs.Chosen.{appends_keeps}
use Rattle.show_waits.specs.Waits.{WritesWaits}
use Rattle.report_objects.specs.Ends.{IsOtherBy, WritesEndLines, end_text}
use Rattle.report_objects.specs.Scenes.{IsLastRow}
use Rattle.report_objects.specs.declared.ends.ToldEnd.{ToldEnd}

none_within : (n : ℕ) → All (λ (k : ℕ). k < n) []
none_within n = λ k d within. absurd (omega arith)

one_at : (n x k d : ℕ) → x < n → k < length (x ∷ []) → slice_index_or (x ∷ []) k d < n
one_at n x zero d low within = low
one_at n x (suc k) d low within = absurd (omega arith)

one_within : (n x : ℕ) → x < n → All (λ (k : ℕ). k < n) (x ∷ [])
one_within n x low = λ k d within. one_at n x k d low within

by_tests : (a b : Bool) (n x y : ℕ) → x < n → y < n
    → All (λ (k : ℕ). k < n) (option_to_list (if a then Some x else if b then Some y else None))
by_tests true b n x y p q = one_within n x p
by_tests false true n x y p q = one_within n y q
by_tests false false n x y p q = none_within n

-- The others of races stand in the log, as their two entries do.
pub others_within : (log : List Entry) (at : ℕ) (races : List Race) → All (IsWithin log) races
    → All (λ (k : ℕ). k < length log) (flat_map (others_of at) races)
others_within log at [] within = none_within (length log)
others_within log at (r ∷ races) within =
    let first : IsWithin log r = within zero r (omega arith) in
    subst (λ (xs : List ℕ). All (λ (k : ℕ). k < length log) xs) (sym (flat_map-cons (others_of at) r races))
    (All-append (λ (k : ℕ). k < length log) (others_of at r) (flat_map (others_of at) races)
    (by_tests (r.first == at) (r.second == at) (length log) r.second r.first first.1 first.0)
    (others_within log at races (λ k d low. within (suc k) d (omega arith))))

-- The last write of another thread, where the last one is the thread's own.
pub no_other : (s : Seen) (own : Bool) (other : Option ℕ) → not own ≡ true → IsOtherBy s own other None
no_other s true other is = absurd (false≢true is)
no_other s false other is = refl

pub some_other : (s : Seen) (own : Bool) (other : Option ℕ) (row : LastRow) → not own ≡ false
    → IsLastRow s.shown s.map s.story other row → IsOtherBy s own other (Some row)
some_other s true other row is last = last
some_other s false other row is last = absurd (false≢true (sym is))

-- What is written of an end, one behind the other.
pub lines_of : (s : Seen) (ends : List ToldEnd) (text dump : List ℕ) (a b c d e : Option (List ℕ)) → text ≡ flat_map end_text ends
    → Appends a b text → WritesWaits s.shown s.map s.story s.left_out b c → dump ≡ dump_text s.moment.wanted.addr s.moment.bytes.items
    → Appends c d dump → Keeps d e → WritesEndLines s ends a e
lines_of s ends text dump a b c d e is wrote waits dump_is dumped last = record {
  said = b;
  says = subst (Appends a b) is wrote;
  waited = c;
  waits = waits;
  bytes = subst (Appends c e) dump_is (appends_keeps c d e dump dumped last);
}
