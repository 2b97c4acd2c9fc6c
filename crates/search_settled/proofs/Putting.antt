-- Rows of next states are put into a table, and the moves to them noted.
use Rattle.std.specs.Prelude.{ℕ, ◌≡◌, ◌^◌, ◌<◌, ◌≤◌, Bool, true, false, List, [], ◌∷◌, ◌++◌, length, Some, refl, if◌then◌else◌}
use Rattle.std.proofs.Common.{ap, subst, sym, ◌∙◌, inl, inr, arith, append_assoc, length-append}
use Rattle.std.specs.List.{slice_get, AllZip, list_any}
use Rattle.std.proofs.lemmas.List.Elements.{Contains-push, Contains-push_cases, Contains-append_left}
use Rattle.std.proofs.lemmas.Option.{slice_get_within}
use Rattle.std.proofs.lemmas.Slice.Zip.{all_zipped_more}
use Rattle.search_graph.specs.declared.graph.Move.{Move}
use Rattle.search_table.specs.declared.parts.StateParts.{StateParts}
use Rattle.search_table.specs.declared.states.States.{States}
use Rattle.search_table.specs.Tables.{states_of, words_eq, with_row}
use Rattle.search_reach.specs.declared.explores.NextState.{NextState}
use Rattle.search_reach.specs.Explored.{Gains, HasAt, IsNoted, Notes}
use Rattle.search_reach.proofs.Searching.{Begins, Begins-self, noted-longer, gains-none, notes-none}
use Rattle.search_settled.specs.declared.flat.RestingState.{RestingState}
use Rattle.search_settled.specs.declared.met.NextRow.{NextRow}
use Rattle.search_settled.specs.Same.{flat_eq}
use Rattle.search_settled.specs.Known.{IsOf, AreOf, IsNextRow, PutsRows}
use Rattle.search_settled.proofs.Rows.{beside, parted, row-alike}

module _ {S : Type 0} where
  gains-old : (ks ls : List S) (xs : List (NextState S)) (x : NextState S) → Gains ks xs ls → Gains ks (xs ++ x ∷ []) ls
  gains-old ks ls xs x g = record {
    more = g.more;
    is = g.is;
    among = λ s c. (let f = g.among s c in (f.0, Contains-append_left xs (x ∷ []) f.0 f.1, f.2));
  }

  gains-new : (ks ls : List S) (xs : List (NextState S)) (x : NextState S) → Gains ks xs ls → Gains ks (xs ++ x ∷ []) (ls ++ x.state ∷ [])
  gains-new ks ls xs x g = record {
    more = g.more ++ x.state ∷ [];
    is = ap (λ l. l ++ x.state ∷ []) g.is ∙ append_assoc ks g.more (x.state ∷ []);
    among = λ s c. elim (Contains-push_cases g.more x.state s c) [
      | inl d ↦ (let f = g.among s d in (f.0, Contains-append_left xs (x ∷ []) f.0 f.1, f.2))
      | inr e ↦ (x, Contains-push xs x, e)
    ];
  }

  notes-one : (eq : S → S → Bool) (ks ls : List S) (at : ℕ) (xs : List (NextState S)) (x : NextState S) (before between after : List Move) (number : ℕ)
      → Begins ks ls → HasAt eq ls number x.state → after ≡ between ++ record { from = at; thread = x.thread; next = number } ∷ []
      → Notes eq ks at xs before between → Notes eq ls at (xs ++ x ∷ []) before after
  notes-one eq ks ls at xs x before between after number longer has pushed n =
      let m : Move = record { from = at; thread = x.thread; next = number } in
      record {
        new = n.new ++ m ∷ [];
        is = pushed ∙ (ap (λ l. l ++ m ∷ []) n.is ∙ append_assoc before n.new (m ∷ []));
        are = all_zipped_more (IsNoted eq ls at) xs n.new x m (noted-longer eq ks ls at xs n.new longer n.are)
            (record { from = refl; thread = refl; next = has });
      }

module _ {G H : Type 0} (eq_shared : G → G → Bool) (eq_thread : H → H → Bool) where
  pub puts-none : (t : StateParts G H) (s : States) (at : ℕ) (moves : List Move) → PutsRows eq_shared eq_thread t s s at [] moves moves
  puts-none t s at moves ks [] are next = (ks, are, gains-none (flat_eq eq_shared eq_thread) ks, λ few. notes-none (flat_eq eq_shared eq_thread) ks at moves)
  puts-none t s at moves ks (x ∷ xs) are next = absurd next

  -- what is among the rows then
  record Put (t : StateParts G H) (v : States) (ks ls : List (RestingState G H)) (xs : List (NextState (RestingState G H))) (x : NextState (RestingState G H)) :
      Type 0 where
    pub states : List (RestingState G H)
    pub are : AreOf t v states
    pub begins : Begins ls states
    pub gains : Gains ks (xs ++ x ∷ []) states

  module _ (self_shared : (x : G) → eq_shared x x ≡ true) (self_thread : (x : H) → eq_thread x x ≡ true) (t : StateParts G H) (s u v : States)
      (r : NextRow) (put : states_of v ≡ with_row (states_of u) r.row.items) where
    put-one : (ks ls : List (RestingState G H)) (xs : List (NextState (RestingState G H))) (x : NextState (RestingState G H)) → IsNextRow t r x → AreOf t u ls →
        Gains ks xs ls → Put t v ks ls xs x
    put-one ks ls xs x is are gains = by (list_any (words_eq r.row.items) (states_of u)) refl
      where
        by : (b : Bool) → list_any (words_eq r.row.items) (states_of u) ≡ b → Put t v ks ls xs x
        by true e =
            let stay : states_of v ≡ states_of u = put ∙ ap (λ (b : Bool). if b then states_of u else states_of u ++ r.row.items ∷ []) e in
            record {
              states = ls;
              are = subst (λ l. AllZip (IsOf t) l ls) (sym stay) are;
              begins = Begins-self ls;
              gains = gains-old ks ls xs x gains;
            }
        by false e =
            let more : states_of v ≡ states_of u ++ r.row.items ∷ [] = put ∙ ap (λ (b : Bool). if b then states_of u else states_of u ++ r.row.items ∷ []) e in
            record {
              states = ls ++ x.state ∷ [];
              are = subst (λ l. AllZip (IsOf t) l (ls ++ x.state ∷ [])) (sym more)
                  (all_zipped_more (IsOf t) (states_of u) ls r.row.items x.state are is.of);
              begins = record { more = x.state ∷ []; is = refl };
              gains = gains-new ks ls xs x gains;
            }

    pub puts-more : (at : ℕ) (rs : List NextRow) (moves between after : List Move) (place number : ℕ) → slice_get (states_of v) place ≡ Some r.row.items
        → after ≡ between ++ record { from = at; thread = r.thread; next = number } ∷ [] → (place < 2 ^ 32 → number ≡ place)
        → PutsRows eq_shared eq_thread t s u at rs moves between → PutsRows eq_shared eq_thread t s v at (rs ++ r ∷ []) moves after
    puts-more at rs moves between after place number stored pushed is so ks xs are next =
        let p = parted (IsNextRow t) rs r xs next in
        let f = so ks p.before are p.first in
        let q = put-one ks f.0 p.before p.last p.is f.1 f.2 in
        let b = beside (IsOf t) (states_of v) q.states q.are place r.row.items stored in
        let long = length-begins f.0 q.states q.begins in
        let within = slice_get_within q.states place b.0 b.1 in (
          q.states,
          q.are,
          subst (λ l. Gains ks l q.states) (sym p.are) q.gains,
          λ few. subst (λ l. Notes (flat_eq eq_shared eq_thread) q.states at l moves after) (sym p.are)
              (notes-one (flat_eq eq_shared eq_thread) f.0 q.states at p.before p.last moves between after place q.begins
              (record {
                key = b.0;
                at = b.1;
                is = row-alike eq_shared eq_thread self_shared self_thread t r.row.items p.last.state b.0 (p.is).of b.2;
              })
              (pushed ∙ (ap (λ (n : ℕ). between ++ record { from = at; thread = r.thread; next = n } ∷ []) (is (omega (arith, within, few)))
              ∙ ap (λ (n : ℕ). between ++ record { from = at; thread = n; next = place } ∷ []) (sym (p.is).thread)))
              (f.3 (omega (arith, long, few)))),
        )
      where
        length-begins : (ls ms : List (RestingState G H)) → Begins ls ms → length ls ≤ length ms
        length-begins ls ms b = omega (arith, ap length b.is, length-append ls b.more)
