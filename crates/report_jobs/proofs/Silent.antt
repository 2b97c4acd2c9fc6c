-- What a job that is refused leaves as it was, by the fault that refuses it.
use Rattle.std.proofs.Common.{◌≡◌, ℕ, List, inl, inr, refl, arith}
use Rattle.std.specs.Prelude.{IfErr, Result, Ok, Err}
use Rattle.report_jobs.specs.declared.replaying.Unfit.{Unfit}
use Rattle.report_jobs.specs.declared.replaying.Unfit.TheVariants as unfits
use Rattle.report_jobs.specs.declared.running.Trouble.{Trouble}
use Rattle.report_jobs.specs.declared.running.Trouble.TheVariants as troubles
use Rattle.report_jobs.specs.declared.undone.Done.{Done}
use Rattle.types.specs.declared.parts.Parts.{Parts}
use Rattle.show_text.specs.declared.sheet.Unwritten.{Unwritten}
use Rattle.show_text.specs.declared.sheet.Unwritten.TheVariants as unwritten
use Rattle.show_json.specs.Unwritten.{LeavesAs}
use Rattle.replay_text.specs.declared.parts.RecordParts.{RecordParts}
use Rattle.replay_text.specs.Text.{record_text}
use Rattle.report_jobs.specs.Jobs.{IsUnfit, IsUnfitTextOf, unfit_of_unwritten}
use Rattle.report_jobs.specs.declared.replaying.Unreplayed.{Unreplayed}
use Rattle.report_jobs.specs.Silence.{Leaves, LeavesOut, IsRefusal, trouble_status, unfit_status}
use Rattle.report_jobs.specs.Troubles.{IsTrouble, IsUnwritten, trouble_of_unwritten}

module _ (A B : Type 0) where
  -- the troubles of a refusal leave both
  pub of_trouble : (t : Trouble) (n : ℕ) → n ≡ trouble_status t → Leaves t A B → IsRefusal n → A × B
  of_trouble (troubles.Call fault) n is left low = left
  of_trouble troubles.NoThread n is left low = left
  of_trouble troubles.NoMemory n is left low = left
  of_trouble troubles.Output n is left low = absurd (omega (arith, is, low.1))
  of_trouble troubles.Save n is left low = absurd (omega (arith, is, low.1))
  of_trouble troubles.SaveMemory n is left low = absurd (omega (arith, is, low.1))

  -- a trouble leaves what stays
  pub of_all : (t : Trouble) → A → B → Leaves t A B
  of_all (troubles.Call fault) a b = (a, b)
  of_all troubles.NoThread a b = (a, b)
  of_all troubles.NoMemory a b = (a, b)
  of_all troubles.Output a b = b
  of_all troubles.Save a b = tt
  of_all troubles.SaveMemory a b = tt

  -- so it does where nothing was known of the second
  pub of_first : (t : Trouble) → Leaves t A (Unit {0}) → B → Leaves t A B
  of_first (troubles.Call fault) left b = (left.0, b)
  of_first troubles.NoThread left b = (left.0, b)
  of_first troubles.NoMemory left b = (left.0, b)
  of_first troubles.Output left b = b
  of_first troubles.Save left b = tt
  of_first troubles.SaveMemory left b = tt

  pub of_err : (r : Result Done Trouble) → A → B → IfErr r (λ t. Leaves t A B)
  of_err (Ok done) a b = tt
  of_err (Err t) a b = of_all t a b

  pub of_first_err : (r : Result Done Trouble) → IfErr r (λ t. Leaves t A (Unit {0})) → B → IfErr r (λ t. Leaves t A B)
  of_first_err (Ok done) left b = tt
  of_first_err (Err t) left b = of_first t left b

-- what leaves one file leaves another one too that stays
pub beside : (A B C : Type 0) (t : Trouble) → Leaves t A C → B → Leaves t A (B × C)
beside A B C (troubles.Call fault) left b = (left.0, (b, left.1))
beside A B C troubles.NoThread left b = (left.0, (b, left.1))
beside A B C troubles.NoMemory left b = (left.0, (b, left.1))
beside A B C troubles.Output left b = (b, left)
beside A B C troubles.Save left b = tt
beside A B C troubles.SaveMemory left b = tt

pub beside_err : (A B C : Type 0) (r : Result Done Trouble) → IfErr r (λ t. Leaves t A C) → B → IfErr r (λ t. Leaves t A (B × C))
beside_err A B C (Ok done) left b = tt
beside_err A B C (Err t) left b = beside A B C t left b

module _ (A : Type 0) where
  pub of_unfit : (u : Unfit) (n : ℕ) → n ≡ unfit_status u → LeavesOut u A → IsRefusal n → A
  of_unfit (unfits.Unread fault) n is left low = left
  of_unfit (unfits.Misfit fault) n is left low = left
  of_unfit unfits.NoMemory n is left low = left
  of_unfit unfits.Output n is left low = absurd (omega (arith, is, low.1))

  pub of_all_out : (u : Unfit) → A → LeavesOut u A
  of_all_out (unfits.Unread fault) a = a
  of_all_out (unfits.Misfit fault) a = a
  of_all_out unfits.NoMemory a = a
  of_all_out unfits.Output a = tt

-- what couldn't be written leaves what it left
module _ {W : Type 0} (old new : W) where
  pub of_unwritten : (A B : Type 0) (u : Unwritten) → LeavesAs old new u → A → B
      → Leaves (trouble_of_unwritten u) ((new ≡ old) × A) B
  of_unwritten A B unwritten.NoMemory left a b = ((left, a), b)
  of_unwritten A B unwritten.Output left a b = b

  pub unwritten_out : (u : Unwritten) → LeavesAs old new u → LeavesOut (unfit_of_unwritten u) (new ≡ old)
  unwritten_out unwritten.NoMemory left = left
  unwritten_out unwritten.Output left = tt

pub is_unwritten : (u : Unwritten) → IsUnwritten (trouble_of_unwritten u)
is_unwritten unwritten.NoMemory = inl refl
is_unwritten unwritten.Output = inr (inl refl)

-- and says nothing of the call or the record
pub unwritten_trouble : (m : Parts) (name : List ℕ) (texts : List (List ℕ)) (u : Unwritten) → IsTrouble m name texts (trouble_of_unwritten u)
unwritten_trouble m name texts unwritten.NoMemory = tt
unwritten_trouble m name texts unwritten.Output = tt

pub unwritten_unfit : (m : Parts) (saved : List ℕ) (u : Unwritten) → IsUnfit m saved (unfit_of_unwritten u)
unwritten_unfit m saved unwritten.NoMemory = tt
unwritten_unfit m saved unwritten.Output = tt

-- what is wrong with a record is so with each text of it
pub unfit_of_text : (m : Parts) (record_is : RecordParts) (saved : List ℕ) → saved ≡ record_text record_is
    → (r : Result Done Unreplayed) → IfErr r (λ e. IsUnfitTextOf m record_is e.unfit) → IfErr r (λ e. IsUnfit m saved e.unfit)
unfit_of_text m record_is saved text (Ok done) unfit = tt
unfit_of_text m record_is saved text (Err e) unfit = unfit saved text
