-- What lies within what lies within a place, and what words name.
use Rattle.std.proofs.Common.{List, Contains, sym, subst, arith}
use Rattle.dwarf_units.specs.declared.spans.Spanned.{Spanned}
use Rattle.dwarf_data.specs.declared.place.ByteRange.{ByteRange}
use Rattle.dwarf_data.specs.declared.words.NamedBytes.{NamedBytes}
use Rattle.dwarf_data.specs.declared.words.NamedBytes.TheVariants as sought
use Rattle.dwarf_data.specs.Within.{IsWithin, IsInSpan, IsWithinOne, NamesWithin, NamesOneMore}

pub within_again : (outer middle inner : ByteRange) → IsWithin outer middle → IsWithin middle inner → IsWithin outer inner
within_again outer middle inner h k = (omega (arith, h.0, k.0), omega (arith, h.1, k.1))

pub one_more_within : (spans : List Spanned) (span : Spanned) (place : ByteRange) (s : NamedBytes) → Contains spans span → IsInSpan span place
    → NamesOneMore place s → NamesWithin spans s
one_more_within spans span place (sought.One found) has lies e = subst (λ (p : ByteRange). IsWithinOne spans p) (sym e) (span, has, lies)
one_more_within spans span place sought.Nothing has lies e = tt
one_more_within spans span place sought.Several has lies e = tt
