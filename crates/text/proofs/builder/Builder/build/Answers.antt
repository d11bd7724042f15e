-- One step more, or a limit is passed for good.
use Rattle.std.proofs.Common.{take, vec_items, sym}
use Rattle.names.specs.View.{list}
use Rattle.terms.specs.RowViews.{row_nodes}
use Rattle.reader.specs.declared.op.Op.TheVariants as op
use Rattle.reader.specs.Ops.{run}
use Rattle.text.proofs.EnteredProperties.{extends_trans}
use Rattle.text.proofs.BuiltProperties.{ends_err}
use Rattle.text.proofs.RunsProperties.{run_more, run_unfit}
use Rattle.text.proofs.builder.Builder.build.Goals as goal

pub returns-in_err-step-clause-built : goal.returns-in_err-step-clause-built
returns-in_err-step-clause-built c =
    let text = c.args.text.now in
    let ops = c.args.ops.now in
    let first = list c.args.names.now in
    let h = c.step.new.self in
    ends_err text first (run text ops) (list c.step.new.names) (row_nodes h.row) (vec_items h.stack)
    (vec_items h.variables) c.from_residual.result c.from_residual.ensures.0
    (run_unfit first text ops c.loop-op.op-index (op.Variable (record { start = 0; end = 0 })) c.loop-op-test.true
    (c.in_err-step.ensures.built first (run text (take c.loop-op.op-index ops)) c.loop-op.invariant.built))

pub loop-op-preserved : goal.loop-op-preserved
loop-op-preserved c =
    let text = c.args.text.now in
    let ops = c.args.ops.now in
    let i = c.loop-op.op-index in
    let first = list c.args.names.now in
    let inv = c.loop-op.invariant in
    record {
      kept = extends_trans first (list c.loop-op.names) (list c.step.new.names) inv.kept c.step.ensures.kept;
      built = rw (sym (run_more text ops i (op.Variable (record { start = 0; end = 0 })) c.loop-op-test.true))
          (c.in_ok-step.ensures.built first (run text (take i ops)) inv.built);
    }
