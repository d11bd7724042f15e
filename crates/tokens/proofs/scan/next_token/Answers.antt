use Rattle.std.proofs.Common.{drop}
use Rattle.tokens.proofs.ScanningProperties.{no_space_behind}
use Rattle.tokens.proofs.scan.next_token.Goals as goal

pub token_at-requires-clause-no_space : goal.token_at-requires-clause-no_space
token_at-requires-clause-no_space c =
    let line = c.args.line.now in
    no_space_behind (drop c.args.pos line) (drop c.run_end-start.result line) c.run_end-start.ensures.value
