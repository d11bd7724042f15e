-- What has been read when all tokens were fed.
use Rattle.std.proofs.Common.{Some, None, Option}
use Rattle.grammar.specs.Machine.{Parser}

abbrev pub fed_result : (G : Parser) → Option G.Place → Option G.Result
fed_result G None = None
fed_result G (Some p) = G.result p
