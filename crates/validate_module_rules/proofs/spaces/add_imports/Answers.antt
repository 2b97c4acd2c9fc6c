use Rattle.std.proofs.Common.{◌≡◌, take, arith}
use Rattle.std.proofs.lemmas.List.{take_all}
use Rattle.types.specs.declared.parts.Import.{Import}
use Rattle.validate_typing.specs.Context.{function_of, memory_of}
use Rattle.validate_module_rules.proofs.Gathered.{gathered_more}
use Rattle.validate_module_rules.proofs.spaces.add_imports.Goals as goal

pub loop-import-init : goal.loop-import-init
loop-import-init c = record { functions = c.requires.functions; memories = c.requires.memories }

pub loop-import-preserved : goal.loop-import-preserved
loop-import-preserved c =
    let xs = c.args.imports.now in
    let i = c.loop-import.import-index in
    let item = c.import-item.result in
    record {
      functions = gathered_more (λ (m : Import). function_of m.desc) xs i item _ _ (omega arith) c.import-item.is
          c.loop-import.invariant.functions c.in_ok-add_import.ensures.functions;
      memories = gathered_more (λ (m : Import). memory_of m.desc) xs i item _ _ (omega arith) c.import-item.is
          c.loop-import.invariant.memories c.in_ok-add_import.ensures.memories;
    }

pub returns-clause-functions : goal.returns-clause-functions
returns-clause-functions c =
    let all : take c.loop-import.import-index c.args.imports.now ≡ c.args.imports.now = take_all _ _ (omega arith) in
    let t = rw all at c.loop-import.invariant in
    t.functions

pub returns-clause-memories : goal.returns-clause-memories
returns-clause-memories c =
    let all : take c.loop-import.import-index c.args.imports.now ≡ c.args.imports.now = take_all _ _ (omega arith) in
    let t = rw all at c.loop-import.invariant in
    t.memories
