-- A line of a closed file that was read, as contracts see it.
use Rattle.check_lines.specs.Lines.{NamedClose}
use Rattle.check_lines.specs.declared.report_lines.ClosedLine.{ClosedLine}

abbrev pub named_close_of : ClosedLine → NamedClose
named_close_of line = record { mark = line.mark; name = line.name.items }
