-- No other known name is that of a built-in predicate.
use Rattle.std.proofs.Common.{◌≡◌, false, ◌∙◌, rules}
use Rattle.terms.specs.BuiltIns.{built_in}
use Rattle.terms.proofs.BuiltInsProperties.{built_in_known}
use Rattle.terms.proofs.known.is_built_in.Goals as goal

pub returns-in-Err-clause-named : goal.returns-in-Err-clause-named
returns-in-Err-clause-named c l =
    let none : false ≡ built_in c.args.name c.args.arity = search rules in
    none ∙ built_in_known c.args.name l c.args.arity
