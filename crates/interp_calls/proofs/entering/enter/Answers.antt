use Rattle.std.proofs.Common.{rules, ◌<◌, ◌++◌, length, replicate, refl, ◌∙◌, ap, arith}
use Rattle.std.proofs.lemmas.Option.{slice_get_within}
use Rattle.types.specs.declared.parts.FuncType.{FuncType}
use Rattle.interp_calls.proofs.entering.enter.Goals as goal

pub overflow_sub-state : goal.overflow_sub-state
overflow_sub-state c =
    let t = ap (λ (x : FuncType). length x.params) (c.type_of_function-func_type.ensures c.requires.func_type c.requires.is.typed) in
    let a = c.requires.arguments in let p = c.len-3.ensures in let v = c.len-2.ensures in omega arith

pub code_of-code-requires-clause-body : goal.code_of-code-requires-clause-body
code_of-code-requires-clause-body c = slice_get_within _ _ _ c.requires.is.body_is

pub code_of-code-requires-clause-table : goal.code_of-code-requires-clause-table
code_of-code-requires-clause-table c = slice_get_within _ _ _ c.requires.is.rows_are

pub returns-clause-entered : goal.returns-clause-entered
returns-clause-entered c = λ t body rows f.
    let same_type = c.type_of_function-func_type.ensures t f.typed in
    let same_locals = c.locals_of-locals.ensures body f.body_is in
    let locals = ap length same_locals in
    record {
      opened = λ few room. (
        refl,
        record {
          function = refl;
          code = c.code_of-code.ensures.code body f.body_is;
          table = c.code_of-code.ensures.table rows f.rows_are;
          pc = refl;
          base =
              (let p = c.len-3.ensures ∙ ap (λ (x : FuncType). length x.params) same_type in let v = c.len-2.ensures in
              let q = ap (λ (x : FuncType). length x.params) (c.type_of_function-func_type.ensures c.requires.func_type c.requires.is.typed) in
              let r = ap (λ (x : FuncType). length x.params) same_type in let a = c.requires.arguments in omega arith);
          operands = search rules;
          results = c.len-state-2.ensures ∙ ap (λ (x : FuncType). length x.results) same_type;
          values = c.push_zeros.ensures.items ∙ ap (λ n. c.args.state.now.values.items ++ replicate n 0) locals;
          callers = c.push_caller.ensures.caller;
          program = refl;
          globals = refl;
          progress = refl;
        },
      );
      too_deep = λ deep. absurd (let a = c.if-len-gt-MOST_FRAMES.false in let b = c.len.ensures in omega arith);
      too_full = λ full. absurd (let a = c.if-locals-len.false in let b = c.len-else-len-gt-MOST_FRAMES.ensures in let d = c.requires.room in omega arith);
    }

pub locals_of-locals-requires : goal.locals_of-locals-requires
locals_of-locals-requires c = slice_get_within _ _ _ c.requires.is.body_is

pub type_of_function-func_type-requires : goal.type_of_function-func_type-requires
type_of_function-func_type-requires c = (c.requires.func_type, c.requires.is.typed)

pub overflow_add-caller : goal.overflow_add-caller
overflow_add-caller c = let h : c.args.state.now.pc < length c.args.state.now.code.now = c.requires.behind in search rules

pub push_caller-requires : goal.push_caller-requires
push_caller-requires c =
    let few = c.if-len-gt-MOST_FRAMES.false in let long = c.len.ensures in let wide = c.args.state.now.callers_fit in omega arith

pub push_zeros-requires : goal.push_zeros-requires
push_zeros-requires c =
    let few = c.if-locals-len.false in let long = c.len-else-len-gt-MOST_FRAMES.ensures in let wide = c.args.state.now.values_fit in
    let room = c.requires.room in omega arith
