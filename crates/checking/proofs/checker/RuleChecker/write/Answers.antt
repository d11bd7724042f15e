-- The rule is written piece by piece, or it is longer than the line.
use Rattle.std.proofs.Common.{◌≡◌, ℕ, Bool, true, false, List, [], ◌++◌, codes, refl, ◌∙◌, append_assoc}
use Rattle.names.specs.View.{list}
use Rattle.terms.specs.Rows.{meaning}
use Rattle.terms.specs.RowViews.{row_nodes}
use Rattle.terms.specs.Term.{Term}
use Rattle.writer.specs.Shown.{shown, firsts}
use Rattle.checking.specs.Checked.{rule_text}
use Rattle.checking.proofs.CheckedProperties.{Line, term_off, not_written}
use Rattle.checking.proofs.checker.RuleChecker.write.Goals as goal

-- what follows the head
abbrev rest : Bool → Term → Term → List ℕ
rest true h b = codes "."
rest false h b = codes " :- " ++ shown (firsts [] h) b ++ codes "."

head_and_rest : (f : Bool) (h b : Term) → shown [] h ++ rest f h b ≡ rule_text f h b
head_and_rest true h b = refl
head_and_rest false h b = simp append_assoc

pub returns-in_err-term : goal.returns-in_err-term
returns-in_err-term c =
    let k = c.args.self.now in
    let h = meaning (list k.names) (row_nodes k.row) c.args.rule.head in
    let b = meaning (list k.names) (row_nodes k.row) c.args.rule.body in
    let begun : Line c.clear.new.self [] [] = record { holds = c.clear.ensures.bytes; numbers = c.clear.ensures.seen; wide = c.clear.ensures.limit ∙ k.wide } in
    not_written _ _ c.from_residual.result c.from_residual.ensures.0
    (term_off c.clear.new.self c.term.new.self [] [] (rest _ h b) _ h _ begun c.in_err-term.ensures (head_and_rest _ h b))
