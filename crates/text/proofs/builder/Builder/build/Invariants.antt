-- The terms of the steps so far are built.
use Rattle.std.proofs.Common.{take}
use Rattle.names.specs.Listed.{Extends}
use Rattle.names.specs.View.{list}
use Rattle.reader.specs.Ops.{run}
use Rattle.text.specs.Builders.{BuiltIn}
use Rattle.text.proofs.builder.Builder.build.Given as goal

abbrev pub invariant-loop-op : goal.invariant-loop-op
invariant-loop-op l = record {
  kept : Extends (list l.initial.names) (list l.names);
  built : BuiltIn l.text (list l.initial.names) (run l.text (take l.op-index l.ops)) (list l.names) l.self;
}
