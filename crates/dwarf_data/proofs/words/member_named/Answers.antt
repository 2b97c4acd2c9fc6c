use Rattle.std.proofs.Common.{rules, arith}
use Rattle.std.proofs.lemmas.Grind.{common_steps}
use Rattle.std.proofs.lemmas.List.Elements.{All-push}
use Rattle.dwarf_data.specs.declared.parts.VariablePart.{VariablePart}
use Rattle.dwarf_data.specs.Within.{IsWithin}
use Rattle.dwarf_data.proofs.Lies.{within_again}
use Rattle.dwarf_data.proofs.words.member_named.Goals as goal
use Rattle.dwarf_data.proofs.words.member_named.Goals.{in-Some-name+else-eq, in-None+in_ok-push-in-None}

pub loop-member-preserved : goal.loop-member-preserved
loop-member-preserved c =
    elim c.match-member-2.branch [
      | in-Some-name+else-eq w ↦ rw w.parts-is c.loop-member.invariant
      | in-None+in_ok-push-in-None w ↦
          let outer : IsWithin c.args.part.place c.in-Some.outer.place = first_of (search rules, grind (arith, common_steps)) in
          let inner : IsWithin c.args.part.place c.in-Some-member.inner.place =
          within_again c.args.part.place c.in-Some.outer.place c.in-Some-member.inner.place outer c.in-Some-member.ensures in
          rw (w.parts-is, w.in_ok-push-in-None.ensures.items)
          (All-push (λ (p : VariablePart). IsWithin c.args.part.place p.place) c.loop-member.parts.items c.in-Some-member.inner c.loop-member.invariant inner)
    ]
