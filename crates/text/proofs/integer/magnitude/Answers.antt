-- The fold takes one digit more at each turn.
use Rattle.std.proofs.Common.{◌∙◌, arith, rules}
use Rattle.std.proofs.lemmas.Iterator.{YieldsList-from_slice}
use Rattle.std.proofs.lemmas.Iterator.Consumers.{fold_from_yields_List}
use Rattle.text.proofs.IntegersProperties.{with_digit, digits_fold}
use Rattle.text.proofs.integer.magnitude.Goals as goal

pub returns : goal.returns
returns c =
    fold_from_yields_List _ with_digit 0 c.fold.result c.fold.ensures.ran
    (YieldsList-from_slice c.args.digits.now cc) (λ a x b q k. search rules)
    ∙ digits_fold 0 c.args.digits.now (omega arith)
