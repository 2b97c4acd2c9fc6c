-- The pieces that jobs made ahead, of which the last one is taken away.
use Rattle.std.proofs.Common.{ℕ, ◌≡◌, ◌+◌, ◌*◌, ◌≤◌, Bool, List, [], ◌∷◌, ◌++◌, Option, Some, IfOk, Result, length}
use Rattle.std.proofs.Common.{length-append, get_or, ap, subst, ◌∙◌, arith}
use Rattle.std.specs.Global.{Vec}
use Rattle.std.specs.Option.{option_to_list}
use Rattle.std.proofs.lemmas.List.{get_or_append_left}
use Rattle.std.proofs.Math.Seq.{get_or-append_seam}
use Rattle.search_scheduled.specs.declared.fault.SearchFault.{SearchFault}
use Rattle.search_scheduled.specs.declared.running.MadeRun.{MadeRun}
use Rattle.search_finds.specs.declared.ahead.RunsAhead.{RunsAhead}
use Rattle.search_finds.specs.declared.search.JudgedEnding.{JudgedEnding}
use Rattle.search_finds.specs.declared.maker.RunMaker.{RunMaker}
use Rattle.search_finds.specs.Searching.{AreMetIn, ArePiecesIn, first_of}

-- one job more makes as many again
one_job_more : (job piece : ℕ) → (job + 1) * piece ≡ job * piece + piece
one_job_more job piece = grind arith

pub first_on : (a : RunsAhead) (job : ℕ) → first_of a job ≤ first_of a (job + 1)
first_on a job = let more = one_job_more job a.piece in omega (arith, more)

pub first_at_none : (a : RunsAhead) → first_of a 0 ≡ a.from
first_at_none a = grind arith

abbrev Made : Type 0
Made = Result (Vec JudgedEnding) SearchFault

module _ (Says : MadeRun → Bool → Type 0) (s : RunMaker) (a : RunsAhead) (old new : List Made) (o : Option Made) (last : Made)
    (is : old ≡ new ++ option_to_list o) (some : o ≡ Some last) where
  with_last : old ≡ new ++ last ∷ []
  with_last = rw some at is

  pub one_fewer : length old ≡ length new + 1
  one_fewer = ap length with_last ∙ length-append new (last ∷ [])

  pub pieces_left : ArePiecesIn Says s a old → ArePiecesIn Says s a new
  pieces_left all = λ job d within.
      let same : get_or old job d ≡ get_or new job d =
      ap (λ (l : List Made). get_or l job d) with_last ∙ get_or_append_left new (last ∷ []) d job within in
      subst (λ (p : Made). IfOk p (λ made. AreMetIn Says s (first_of a job) made.items)) same
      (all job d (let count = one_fewer in omega (arith, count, within)))

  pub piece_last : ArePiecesIn Says s a old → IfOk last (λ made. AreMetIn Says s (first_of a (length new)) made.items)
  piece_last all =
      let same : get_or old (length new) last ≡ last =
      ap (λ (l : List Made). get_or l (length new) last) with_last ∙ get_or-append_seam new last [] last in
      subst (λ (p : Made). IfOk p (λ made. AreMetIn Says s (first_of a (length new)) made.items)) same
      (all (length new) last (let count = one_fewer in omega (arith, count)))
