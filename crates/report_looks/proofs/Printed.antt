-- What is printed of a record, to which stream.
use Rattle.std.proofs.Common.{ℕ, ◌≡◌, List, true, false, cond, is_some, sym, subst, ap}
use Rattle.report_command.specs.Views.{path_of}
use Rattle.report_command.specs.declared.show.ShowLook.{ShowLook}
use Rattle.report_jobs.specs.Prints.{WriterChange}
use Rattle.report_looks.specs.Looked.{PrintsShow, stream_of}
use Rattle.report_looks.specs.Raced.{OfModule}

-- Where a view makes a file, it is written there.
pub to_file : (how : ShowLook) (bytes saved : List ℕ) (out save : WriterChange) → is_some (path_of how.view) ≡ true
    → OfModule (PrintsShow bytes how save) bytes saved → OfModule (PrintsShow bytes how (stream_of how.view out save)) bytes saved
to_file how bytes saved out save is = subst (λ (w : WriterChange). OfModule (PrintsShow bytes how w) bytes saved)
    (sym (ap (λ b. cond b save out) is))

-- And else to standard output.
pub to_output : (how : ShowLook) (bytes saved : List ℕ) (out save : WriterChange) → is_some (path_of how.view) ≡ false
    → OfModule (PrintsShow bytes how out) bytes saved → OfModule (PrintsShow bytes how (stream_of how.view out save)) bytes saved
to_output how bytes saved out save is = subst (λ (w : WriterChange). OfModule (PrintsShow bytes how w) bytes saved)
    (sym (ap (λ b. cond b save out) is))
