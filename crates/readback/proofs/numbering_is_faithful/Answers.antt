use Rattle.readback.proofs.RenamingProperties.{numbered_in_order, numbered_once, nothing_lost, same_text}
use Rattle.readback.proofs.RenamingProperties.{head_and_body_alike}
use Rattle.readback.proofs.numbering_is_faithful.Goals as goal

pub returns : goal.returns
returns c = record {
  order = numbered_in_order;
  once = numbered_once;
  restored = nothing_lost;
  text = same_text;
  alike = head_and_body_alike;
}
