-- What a host's numbers stand for.
use Rattle.std.specs.Prelude.{◌%◌, ◌^◌, ◌==◌, if◌then◌else◌, List, map, min, max}
use Rattle.types.specs.declared.value.Value.{Value}
use Rattle.types.specs.declared.value.Value.TheVariants.{I32, I64}
use Rattle.selection.specs.declared.way.Way.{Way}
use Rattle.selection.specs.declared.way.Way.TheVariants as ways
use Rattle.host_calls.specs.declared.plan.Plan.{Plan}
use Rattle.wathread_c.specs.declared.given.Options.{Options}
use Rattle.wathread_c.specs.declared.given.Word.{Word}

-- A value is an i64, or the low half of the word as an i32.
abbrev pub value_by : Word → Value
value_by word = if word.is_wide == 0 then I32 (word.bits % 2 ^ 32) else I64 word.bits

abbrev pub values_by : List Word → List Value
values_by words = map value_by words

-- The strategy of a number; the depth of priorities is 1 to 32.
abbrev pub way_by : Options → Way
way_by o = if o.strategy == 1 then ways.Random else if o.strategy == 2 then ways.Priorities (min (max o.depth 1) 32)
    else if o.strategy == 3 then ways.Spin else ways.Mix

abbrev pub plan_by : Options → Plan
plan_by o = record { way = way_by o; seed = o.seed; run = o.run; fuel = o.fuel; limit = o.limit }
