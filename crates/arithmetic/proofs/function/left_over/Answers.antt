-- The remainder that is never negative, and the divisor added where that is negative.
use Rattle.std.proofs.Common.{rules}
use Rattle.std.proofs.lemmas.Int.{to_z-of_z}
use Rattle.arithmetic.proofs.RemainderProperties.{modulo_is_rest_and_divisor, modulo_is_rest}
use Rattle.arithmetic.proofs.function.left_over.Goals as goal

pub returns-then-rest-ne0 : goal.returns-then-rest-ne0
returns-then-rest-ne0 c = search (rules, to_z-of_z, modulo_is_rest_and_divisor)

pub returns-else-b-lt0 : goal.returns-else-b-lt0
returns-else-b-lt0 c = search (rules, to_z-of_z, modulo_is_rest)
