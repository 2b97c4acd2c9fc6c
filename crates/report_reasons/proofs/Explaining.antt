-- What begins with a line of a record begins so behind another text, too.
use Rattle.std.proofs.Common.{◌≡◌, ◌∙◌, ◌⊎◌, ℕ, ◌+◌, ◌<◌, ◌≤◌, List, [], ◌++◌, inl, inr, sym, ap, refl, append-nil, append_assoc}
use Rattle.std.specs.Prelude.{Err, Ok, Result}
use Rattle.replay_text.specs.Breaks.{line_feeds}
use Rattle.report_jobs.specs.declared.undone.Done.{Done}
use Rattle.report_jobs.specs.declared.undone.Refused.{Refused}
use Rattle.report_jobs.specs.declared.undone.Refused.TheVariants as refused
use Rattle.report_jobs.specs.declared.undone.Undone.{Undone}
use Rattle.report_jobs.specs.declared.undone.Undone.TheVariants as undone
use Rattle.report_reasons.specs.Added.{IsAddedTo}
use Rattle.report_reasons.specs.Lines.{BeginsWithLine, SaysLine}
use Rattle.report_reasons.specs.Reasons.{Explains, NamesLine}

says_behind : (text : List ℕ) (n : ℕ) (old said : List ℕ) → SaysLine text n [] said → SaysLine text n old (old ++ said)
says_behind text n old said (inl (line, is, same)) = inl (line, is, ap (λ (xs : List ℕ). old ++ xs) same)
says_behind text n old said (inr (few, same)) = inr (few, ap (λ (xs : List ℕ). old ++ xs) same ∙ append-nil old)

begins_behind : (text : List ℕ) (n : ℕ) (old new : List ℕ) → BeginsWithLine text n [] new → BeginsWithLine text n old (old ++ new)
begins_behind text n old new begins one =
    let it = begins one in
    (old ++ it.0, says_behind text n old it.0 it.1, (it.2.0, ap (λ (xs : List ℕ). old ++ xs) it.2.1 ∙ sym (append_assoc old it.0 it.2.0)))

names_behind : (why : Refused) (saved old new : List ℕ) → NamesLine why saved [] new → NamesLine why saved old (old ++ new)
names_behind (refused.Header n) saved old new = begins_behind saved n old new
names_behind (refused.Unreadable n) saved old new = begins_behind saved n old new
names_behind (refused.Line n misfit) saved old new = begins_behind saved n old new
names_behind (refused.EndLine n misfit) saved old new = begins_behind saved n old new
names_behind (refused.Read kind offset) saved old new = λ _. tt
names_behind (refused.Rule kind) saved old new = λ _. tt
names_behind (refused.RuleInBody kind function instruction) saved old new = λ _. tt
names_behind (refused.Unlaid why addr count) saved old new = λ _. tt
names_behind (refused.Call fault valid) saved old new = λ _. tt
names_behind (refused.Absent absent) saved old new = λ _. tt
names_behind (refused.Allowance absent) saved old new = λ _. tt
names_behind refused.EndMissing saved old new = λ _. tt

pub explains_behind : (r : Result Done Undone) (saved old new : List ℕ) → Explains r saved [] new → Explains r saved old (old ++ new)
explains_behind (Ok done) saved old new = λ _. tt
explains_behind (Err (undone.Refused why)) saved old new = names_behind why saved old new
explains_behind (Err (undone.Failed failed)) saved old new = λ _. tt
