use Rattle.std.proofs.Common.{◌++◌, [], ◌∷◌, map, take, sym, ◌∙◌, ap}
use Rattle.std.proofs.lemmas.List.{map-append, map_more}
use Rattle.dwarf_lines.specs.declared.sources.SourceLines.{SourceLines}
use Rattle.dwarf_lines.specs.Sources.{names_of, called}
use Rattle.dwarf_lines.proofs.sources.Sources.new.Goals as goal

pub loop-file-init : goal.loop-file-init
loop-file-init c = sym (ap (map called) c.in_ok-all.ensures.items)

pub loop-file-preserved : goal.loop-file-preserved
loop-file-preserved c =
    let front = take c.loop-file.file-index c.args.files.now in
    let all = c.loop-file.all.items in
    let first = c.as_str.ensures.value in
    let second = c.as_str-in-loop-file.ensures.value in
    let pushed : SourceLines = record {
      source = record { directory = c.as_str.result; name = c.as_str-in-loop-file.result };
      lines = c.in_ok-lines_of.field-0;
    } in
    map_more names_of c.args.files.now c.loop-file.file-index _ c.loop-file-test.true
    ∙ (ap (λ n. map names_of front ++ (n ∷ [])) (ap names_of (sym c.file-item.is) ∙ (λ j. (sym first j, sym second j)))
    ∙ (ap (λ z. z ++ (called pushed ∷ [])) c.loop-file.invariant ∙
    (sym (map-append called all (pushed ∷ [])) ∙ ap (map called) (sym c.in_ok-push.ensures.items))))
