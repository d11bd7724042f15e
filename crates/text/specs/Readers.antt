-- The variables of the text that a reader read last.
use Rattle.std.specs.Prelude.{List, vec_items}
use Rattle.reader.specs.declared.span.Span.{Span}
use Rattle.text.specs.declared.text_reader.TextReader.{TextReader}

abbrev pub reader_spans : TextReader → List Span
reader_spans t = vec_items t.builder.variables
