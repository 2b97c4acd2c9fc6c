-- What is told of threads that trapped, thread by thread, and line by line.
use Rattle.std.proofs.Common.{◌≡◌, ℕ, ◌+◌, ◌<◌, List, [], ◌∷◌, ◌++◌, length, drop, get_or, Option, refl, sym, subst, ap, ◌∙◌, append_assoc, codes}
use Rattle.std.proofs.lemmas.List.{append-nil}
use Rattle.std.proofs.lemmas.List.{drop_more}
use Rattle.types.specs.declared.outcome.ThreadReport.{ThreadReport}
use Rattle.types.specs.declared.outcome.Trap.{Trap}
use Rattle.types.specs.declared.outcome.Outcome.TheVariants as outcomes
use Rattle.report_jobs.specs.Trapped.{IsAddedTo, TellsEnd, TellsTraps, trap_front}
use Rattle.report_jobs.proofs.Said.{untold}

-- what is told of the threads from this one on is what is left to tell
abbrev pub IsLeft : List ThreadReport → ℕ → Option (List ℕ) → Option (List ℕ) → Type 0
IsLeft reports thread first now =
    (last : Option (List ℕ)) → TellsTraps thread (drop thread reports) now last → TellsTraps 0 reports first last

pub tells_next : (reports : List ThreadReport) (thread : ℕ) (d : ThreadReport) (first now next : Option (List ℕ)) → thread < length reports
    → IsLeft reports thread first now → TellsEnd thread (get_or reports thread d).outcome now next
    → IsLeft reports (thread + 1) first next
tells_next reports thread d first now next within left told last more =
    left last (subst (λ (rs : List ThreadReport). TellsTraps thread rs now last) (sym (drop_more reports thread d within))
    (next, told, more))

pub tells_all : (reports : List ThreadReport) (thread : ℕ) (first now : Option (List ℕ)) → drop thread reports ≡ []
    → IsLeft reports thread first now → TellsTraps 0 reports first now
tells_all reports thread first now none left =
    left now (subst (λ (rs : List ThreadReport). TellsTraps thread rs now now) (sym none) refl)

-- the line without places, of which nothing was told
pub untold_plain : (thread : ℕ) (trap : Trap) (old : Option (List ℕ)) → TellsEnd thread (outcomes.Trap trap) old old
untold_plain thread trap old =
    let line = trap_front thread trap ++ codes "\n" in
    (line, ([], ap (λ (front : List ℕ). front ++ codes "\n") (sym (append-nil (trap_front thread trap)))), untold old line)

-- what was added to what was added
pub added_more : (old now new text : List ℕ) → IsAddedTo old now → new ≡ now ++ text → IsAddedTo old new
added_more old now new text added same =
    (added.0 ++ text, same ∙ ap (λ (front : List ℕ). front ++ text) added.1 ∙ append_assoc old added.0 text)
