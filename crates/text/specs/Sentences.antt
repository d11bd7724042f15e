-- What is said where a text is not taken.
use Rattle.std.specs.Prelude.{ℕ, List, codes}
use Rattle.reader.specs.Faults.{line_text}
use Rattle.text.specs.declared.fault.LimitFault.{LimitFault}
use Rattle.text.specs.declared.fault.LimitFault.TheVariants.{Integer, LongName, Arguments, Variables, Nodes, Names}
use Rattle.text.specs.declared.fault.HeadFault.{HeadFault}
use Rattle.text.specs.declared.fault.HeadFault.TheVariants.{VariableHead, IntegerHead, BuiltInHead, IntegerBody}
use Rattle.text.specs.declared.fault.TextFault.{TextFault}
use Rattle.text.specs.declared.fault.TextFault.TheVariants.{TooLong, Grammar, Limit, Head}

abbrev pub limit_sentence : LimitFault → List ℕ
limit_sentence Integer = codes "An integer does not fit into 32 bits."
limit_sentence LongName = codes "A name is longer than 64 bytes."
limit_sentence Arguments = codes "A term has more than 8 arguments."
limit_sentence Variables = codes "The rule has more than 32 variables."
limit_sentence Nodes = codes "The rule has more than 256 nodes."
limit_sentence Names = codes "The table of names is full."

abbrev pub head_sentence : HeadFault → List ℕ
head_sentence VariableHead = codes "The head is a variable."
head_sentence IntegerHead = codes "The head is an integer."
head_sentence BuiltInHead = codes "The head is a built-in predicate."
head_sentence IntegerBody = codes "The body is an integer."

abbrev pub text_sentence : TextFault → List ℕ
text_sentence TooLong = codes "The text is longer than 1024 bytes."
text_sentence (Grammar f) = line_text f
text_sentence (Limit f) = limit_sentence f
text_sentence (Head f) = head_sentence f
