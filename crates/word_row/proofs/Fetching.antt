-- A single exchange of the word of an event is a step that the row's rule allows.
use Rattle.std.proofs.Common.{ℕ, ◌≡◌, ◌^◌, ◌<◌, ◌≤◌, sym, subst, length}
use Rattle.atomic_table.specs.Table.{Me, Allows}
use Rattle.types.specs.declared.event.Event.{Event}
use Rattle.shared_memory.specs.Memory.{Memory}
use Rattle.shared_memory.specs.History.{memory_after}
use Rattle.shared_memory_on_table.specs.declared.view.View.{View}
use Rattle.shared_memory_on_table.specs.Moves.{IsOne, caller_in}
use Rattle.word_row.specs.Answers.{end_of, place_of, IsMadeBy}
use Rattle.word_row.specs.Rule.{KeptRow, MayTry, FetchesAs, StoresAs}
use Rattle.word_row.proofs.Moves.{fetches, stores}

-- What is asked of the event that is tried, the one that the step is a try of.
module _ (opening key : Memory) (slots id word : ℕ) (me : Me ℕ View) (event tried : Event) (same_key : key ≡ opening) (making : event ≡ tried)
    (one : IsOne me) (may : MayTry (caller_in me.0) tried) (place : place_of tried ≡ word)
    (within : end_of tried ≤ length (memory_after opening (caller_in me.0).seen).bytes) where
  pub fetching : (makes : ℕ → ℕ) → ((n : ℕ) → n < 2 ^ 64 → makes n < 2 ^ 64) → IsMadeBy tried makes
      → Allows (KeptRow key) slots id me word makes (λ n x. FetchesAs opening event word me n x)
  fetching makes fits made_by =
      let by_event : Allows (KeptRow opening) slots id me word makes (λ n x. FetchesAs opening tried word me n x) =
      subst (λ (w : ℕ). Allows (KeptRow opening) slots id me w makes (λ n x. FetchesAs opening tried w me n x)) place
      (fetches opening slots id me tried makes one may within fits made_by) in
      subst (λ (k : Memory). Allows (KeptRow k) slots id me word makes (λ n x. FetchesAs opening event word me n x)) (sym same_key)
      (subst (λ (e : Event). Allows (KeptRow opening) slots id me word makes (λ n x. FetchesAs opening e word me n x)) (sym making) by_event)

  pub storing : (new : ℕ) → new < 2 ^ 64 → IsMadeBy tried (λ _. new)
      → Allows (KeptRow key) slots id me word (λ _. new) (λ _ x. StoresAs opening event word me x)
  storing new fits made_by =
      let by_event : Allows (KeptRow opening) slots id me word (λ _. new) (λ _ x. StoresAs opening tried word me x) =
      subst (λ (w : ℕ). Allows (KeptRow opening) slots id me w (λ _. new) (λ _ x. StoresAs opening tried w me x)) place
      (stores opening slots id new me tried one may within fits made_by) in
      subst (λ (k : Memory). Allows (KeptRow k) slots id me word (λ _. new) (λ _ x. StoresAs opening event word me x)) (sym same_key)
      (subst (λ (e : Event). Allows (KeptRow opening) slots id me word (λ _. new) (λ _ x. StoresAs opening e word me x)) (sym making) by_event)
