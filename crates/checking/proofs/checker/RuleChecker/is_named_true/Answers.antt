use Rattle.std.proofs.Common.{◌≡◌, [], slice_index_or, eqb, ap, ◌∙◌, arith}
use Rattle.std.proofs.lemmas.Grind.{common_steps}
use Rattle.std.specs.Cmp.Lexicographic.{pointwise}
use Rattle.names.specs.View.{list}
use Rattle.terms.specs.Known.{true_name}
use Rattle.checking.proofs.CheckedProperties.{pointwise_same}
use Rattle.checking.proofs.checker.RuleChecker.is_named_true.Goals as goal

pub returns : goal.returns
returns c =
    let name : c.unwrap_or.result.now ≡ slice_index_or (list c.args.self.now.names) c.args.name [] = grind (arith, common_steps) in
    c.eq.ensures ∙ ap (pointwise eqb c.unwrap_or.result.now) c.as_slice.ensures
    ∙ ap (λ x. pointwise eqb x true_name) name ∙ pointwise_same (slice_index_or (list c.args.self.now.names) c.args.name []) true_name
