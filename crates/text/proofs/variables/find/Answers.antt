-- The first of the variables whose part of the text is the name.
use Rattle.std.proofs.Common.{Bool, cond, None, ap, ◌∙◌, rules}
use Rattle.std.proofs.lemmas.Iterator.{YieldsList-from_slice}
use Rattle.std.proofs.lemmas.Iterator.Adapters.{position_from-zero}
use Rattle.std.proofs.lemmas.Iterator.Search.{position_from_yields_List}
use Rattle.tokens.specs.Bytes.{same}
use Rattle.reader.specs.Ops.{part}
use Rattle.reader.specs.declared.span.Span.{Span}
use Rattle.text.specs.Numbering.{found_from}
use Rattle.text.specs.Building.{cuts}
use Rattle.text.proofs.NumberingProperties.{found_position, same_slices}
use Rattle.text.proofs.variables.find.Goals as goal

pub returns : goal.returns
returns c =
    let ss = c.args.variables.now in
    let text = c.args.text.now in
    let a = c.args.name.now in
    let here : Span → Bool = λ s. same (part text s.start s.end) a in
    position_from_yields_List here _ _ c.position.result c.position.ensures.ran (YieldsList-from_slice ss cc)
    (λ x b q k. search (rules, same_slices))
    ∙ position_from-zero here ss ∙ found_position 0 text ss a
    ∙ ap (λ b. cond b None (found_from 0 (cuts text ss) a)) c.if-is_lone.ensures
