-- Which writes an access reads from.
use Rattle.std.proofs.Common.{◌≡◌, ◌∙◌, ◌<◌, ◌≤◌, ◌+◌, ◌/◌, ◌%◌, ◌++◌, ◌&&◌, ℕ, List, [], ◌∷◌, true, Option, Some, None}
use Rattle.std.proofs.Common.{length, get_or, inl, inr, refl, sym, ap, subst, arith}
use Rattle.std.specs.List.{Contains, fold}
use Rattle.std.specs.Option.{option_to_list}
use Rattle.std.proofs.lemmas.Bool.{and_from, and_parts, cases_lt, cond-true}
use Rattle.std.proofs.lemmas.List.{length_push}
use Rattle.std.proofs.lemmas.Option.{cond_some, none-some}
use Rattle.types.specs.declared.event.Entry.{Entry}
use Rattle.shared_memory.specs.History.{AreEntries}
use Rattle.race_history.specs.declared.access.ThreadAccess.{ThreadAccess}
use Rattle.race_history.specs.declared.access.Site.{Site}
use Rattle.race_history.specs.declared.lasts.Last.{Last}
use Rattle.race_history.specs.Accesses.{AreMatched, HasByte, Meet, accesses_of}
use Rattle.race_history.specs.Places.{IsAccess, IsAt}
use Rattle.race_history.specs.Order.{ReadsFrom}
use Rattle.race_history.specs.Lasts.{AreLasts, IsInWord, list_for}
use Rattle.race_history.specs.Tests.{are_matched}
use Rattle.race_history.specs.Writers.{AreWriters, from_latest, later, read_from, writers_in}
use Rattle.race_history.proofs.Lists.{Contains-none, fold_from, fold_to, in_some, lists_all, lists_from, some_in}
use Rattle.race_history.proofs.Places.{IsAccess-same, access_made, access_word, made_here}
use Rattle.race_history.proofs.Words.{matched_from, matched_meet, matched_to, one_word}
use Rattle.race_history.proofs.Latest.{IsLatest, latest_is}

module _ (log : List Entry) (sites : List Site) (opening : ℕ) (entries : AreEntries log) (end : ℕ) (lists : List (List Last))
    (lasts : AreLasts log sites opening end lists) (a : ThreadAccess) (is : IsAccess log sites opening end a) where
  wa : IsInWord a
  wa = access_word log sites opening entries end a is

  -- the last of an access that touches a byte of this one is in its list
  pub near : (place : ℕ) (b : ThreadAccess) → place < end → IsAccess log sites opening place b → Meet b a
      → (x : Last) × (Contains (list_for lists a.addr) x × (x.access ≡ b) × (place ≤ x.place))
  near place b lt h meet =
      let o = lasts.all place b (lt, h) in
      let word : b.addr / 8 ≡ a.addr / 8 = one_word b a (access_word log sites opening entries place b h) wa meet in
      let same : list_for lists b.addr ≡ list_for lists a.addr = ap (λ (w : ℕ). get_or lists (w % length lists) []) word in
      (o.0, (subst (λ (l : List Last). Contains l o.0) same o.1.0, o.1.1, o.1.2))

  pub words : (x : Last) → Contains (list_for lists a.addr) x → IsInWord x.access
  words x c = access_word log sites opening entries x.place x.access (lasts.made (a.addr / 8 % length lists) x c).1

  reads_from : (o : Option Last) → IsLatest a (list_for lists a.addr) o → (first : ℕ) → from_latest a o ≡ Some first → ReadsFrom log sites opening first end
  reads_from None h first e = absurd (none-some first e)
  reads_from (Some y) h first e =
      let p = cond_some (a.reads && are_matched y.access a) y.place first e in
      let q = and_parts a.reads (are_matched y.access a) p.0 in
      let at : y.place ≡ first = p.1 in
      let m = lasts.made (a.addr / 8 % length lists) y h.has in
      let lt : y.place < end = m.0 in
      record {
        earlier = omega arith;
        write = y.access;
        read = a;
        made = subst (λ (n : ℕ). IsAccess log sites opening n y.access) at m.1;
        met = is;
        matched = matched_from y.access a q.1;
        writes = h.writes;
        reads = q.0;
        last = λ k c after before i w meet.
            let z = near k c before i meet in
            let x : Last = z.0 in
            let late : k ≤ x.place = z.1.2 in
            let latest : x.place ≤ y.place = h.last x z.1.0 (subst (λ (b : ThreadAccess). b.writes ≡ true) (sym z.1.1) w)
            (subst (λ (b : ThreadAccess). Meet b a) (sym z.1.1) meet) in
            omega arith;
      }

  -- a write that this access reads from
  module _ (first : ℕ) (r : ReadsFrom log sites opening first end) (same_read : r.read ≡ a) where
    meet : Meet r.write a
    meet = subst (λ (b : ThreadAccess). Meet r.write b) same_read
        (matched_meet r.write r.read (access_word log sites opening entries first r.write r.made) r.matched)

    -- no write in a list that touches a byte is later
    no_later : (x : Last) → Contains (list_for lists a.addr) x → x.access.writes ≡ true → Meet x.access a → x.place ≤ first
    no_later x c w m =
        let made = lasts.made (a.addr / 8 % length lists) x c in
        elim (cases_lt first x.place) [
          | inl after ↦ absurd (r.last x.place x.access after made.0 made.1 w (subst (λ (b : ThreadAccess). Meet x.access b) (sym same_read) m))
          | inr le ↦ le
        ]

    found : (x : Last) × (Contains (list_for lists a.addr) x × (x.access ≡ r.write) × (first ≤ x.place))
    found = near first r.write r.earlier r.made meet

    writes_found : found.0.access.writes ≡ true
    writes_found = subst (λ (b : ThreadAccess). b.writes ≡ true) (sym found.1.1) r.writes

    meet_found : Meet found.0.access a
    meet_found = subst (λ (b : ThreadAccess). Meet b a) (sym found.1.1) meet

    -- it has the bytes of this one
    back : (byte : ℕ) → HasByte a byte → HasByte r.write byte
    back byte has =
        let read : HasByte r.read byte = subst (λ (b : ThreadAccess). HasByte b byte) (sym same_read) has in (
          subst (λ (n : ℕ). n ≤ byte) (sym r.matched.addr) read.0,
          subst (λ (n : ℕ). byte < n + r.write.width) (sym r.matched.addr)
              (subst (λ (n : ℕ). byte < r.read.addr + n) (sym r.matched.width) read.1),
        )

    from_reads : (o : Option Last) → IsLatest a (list_for lists a.addr) o → from_latest a o ≡ Some first
    from_reads None h = absurd (h found.0 found.1.0 writes_found meet_found)
    from_reads (Some y) h =
        let le : y.place ≤ first = no_later y h.has h.writes h.meet in
        let late : first ≤ found.0.place = found.1.2 in
        let latest : found.0.place ≤ y.place = h.last found.0 found.1.0 writes_found meet_found in
        let at : y.place ≡ first = omega arith in
        let made = lasts.made (a.addr / 8 % length lists) y h.has in
        let same : y.access ≡ r.write =
        IsAccess-same log sites opening first y.access r.write (subst (λ (n : ℕ). IsAccess log sites opening n y.access) at made.1) r.made
        (h.meet.0 ∙ sym meet.0, (h.meet.1.0, (h.meet.1.1.0, back h.meet.1.0 h.meet.1.1.1))) in
        let matched : AreMatched y.access a =
        subst (λ (b : ThreadAccess). AreMatched b a) (sym same) (subst (λ (b : ThreadAccess). AreMatched r.write b) same_read r.matched) in
        let reads : a.reads ≡ true = subst (λ (b : ThreadAccess). b.reads ≡ true) same_read r.reads in
        cond-true (a.reads && are_matched y.access a) (Some y.place) None
        (and_from a.reads (are_matched y.access a) reads (matched_to y.access a matched))
        ∙ ap (λ (n : ℕ). Some n) at

  latest : IsLatest a (list_for lists a.addr) (fold (later a) None (list_for lists a.addr))
  latest = latest_is a wa (list_for lists a.addr) words

  pub read_from-is : (first : ℕ) → read_from (list_for lists a.addr) a ≡ Some first → ReadsFrom log sites opening first end
  read_from-is first e = reads_from (fold (later a) None (list_for lists a.addr)) latest first e

  pub is-read_from : (first : ℕ) (r : ReadsFrom log sites opening first end) → r.read ≡ a → read_from (list_for lists a.addr) a ≡ Some first
  is-read_from first r same = from_reads first r same (fold (later a) None (list_for lists a.addr)) latest

-- and which an entry reads from
module _ (log : List Entry) (sites : List Site) (opening : ℕ) where
  module _ (entries : AreEntries log) (end : ℕ) (lists : List (List Last)) (lasts : AreLasts log sites opening end lists) (e : Entry) (site : Site)
      (at : IsAt log end e) (of : IsAt sites end site) where
    abbrev writer : ThreadAccess → List ℕ
    writer a = option_to_list (read_from (list_for lists a.addr) a)

    pub writers_in-is : (first : ℕ) → Contains (writers_in lists (accesses_of e site opening)) first → ReadsFrom log sites opening first end
    writers_in-is first c = elim (fold_from writer (accesses_of e site opening) [] first c) [
      | inl none ↦ absurd (Contains-none first none)
      | inr r ↦
          let a : ThreadAccess = r.0 in
          read_from-is log sites opening entries end lists lasts a (access_made log sites opening end e site a at of r.1.0) first
          (some_in (read_from (list_for lists a.addr) a) first r.1.1)
    ]

    pub is-writers_in : (first : ℕ) → ReadsFrom log sites opening first end → Contains (writers_in lists (accesses_of e site opening)) first
    is-writers_in first r =
        fold_to writer (accesses_of e site opening) [] r.read first (made_here log sites opening end e site r.read at of r.met)
        (in_some (read_from (list_for lists r.read.addr) r.read) first
        (is-read_from log sites opening entries end lists lasts r.read r.met first r refl))

  -- one more
  pub writers_none : AreWriters log sites opening 0 []
  writers_none = record {
    count = refl;
    from = λ first second c. absurd (Contains-none first c);
    all = λ first second lt r. absurd (omega arith);
  }

  pub writers_more : (end : ℕ) (ws : List (List ℕ)) (l : List ℕ) → AreWriters log sites opening end ws
      → ((first : ℕ) → Contains l first → ReadsFrom log sites opening first end)
      → ((first : ℕ) → ReadsFrom log sites opening first end → Contains l first)
      → AreWriters log sites opening (end + 1) (ws ++ l ∷ [])
  writers_more end ws l h from to =
      let count : length ws ≡ end = h.count in
      record {
        count = length_push ws l ∙ ap (λ (n : ℕ). n + 1) count;
        from = lists_from (ReadsFrom log sites opening) end ws l count h.from from;
        all = lists_all (ReadsFrom log sites opening) end ws l count h.all to;
      }
