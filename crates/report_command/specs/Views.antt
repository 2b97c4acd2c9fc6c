-- What is made of a record.
use Rattle.std.specs.Prelude.{◌≤◌, List, ℕ, Option, Some, None}
use Rattle.std.specs.Borrow.{Bor}
use Rattle.report_command.specs.declared.limits.TheConstants.{MOST_DUMP}
use Rattle.report_command.specs.declared.show.RecordView.{RecordView}
use Rattle.report_command.specs.declared.show.RecordView.TheVariants.{Rows, Unfolded, Moment, Write, Page, Trace}
use Rattle.report_command.specs.declared.show.RecordView.TheVariants.{Said, Object}
use Rattle.report_command.specs.declared.form.Form.{Form}
use Rattle.report_command.specs.declared.form.Form.TheVariants.{Lines, Json}

-- A moment shows no more bytes than any dump.
abbrev pub IsViewInRange : RecordView → Type 0
IsViewInRange (Moment at) = at.count ≤ MOST_DUMP
IsViewInRange Rows = Unit {0}
IsViewInRange Unfolded = Unit {0}
IsViewInRange Said = Unit {0}
IsViewInRange Object = Unit {0}
IsViewInRange (Write write) = Unit {0}
IsViewInRange (Page path) = Unit {0}
IsViewInRange (Trace path) = Unit {0}

-- The path of the file that is made, if one is.
abbrev pub path_of : RecordView → Option (Bor (List ℕ))
path_of Rows = None
path_of Unfolded = None
path_of Said = None
path_of Object = None
path_of (Moment at) = None
path_of (Write write) = None
path_of (Page path) = Some path
path_of (Trace path) = Some path

-- In which form it is printed.
abbrev pub view_form : RecordView → Form
view_form Object = Json
view_form Rows = Lines
view_form Unfolded = Lines
view_form Said = Lines
view_form (Moment at) = at.form
view_form (Write write) = write.form
view_form (Page path) = Lines
view_form (Trace path) = Lines
