-- The lines that were read, as contracts see them.
use Rattle.check_lines.specs.Words.{ℕ, List, map, all_completed}
use Rattle.std.specs.Borrow.{Bor}
use Rattle.check_lines.specs.ClosedView.{named_close_of}
use Rattle.check_lines.specs.Lines.{Lines}
use Rattle.check_lines.specs.declared.report_lines.ReportLines.{ReportLines}

abbrev pub lines_in : ReportLines → Lines
lines_in lines = record {
  completions = all_completed lines.completions.items;
  closed = map named_close_of lines.closed.items;
  tags = lines.tags.items;
}

-- the lines that were read, and the rest of the text
abbrev pub front_of : ReportLines × Bor (List ℕ) → Lines × List ℕ
front_of front = (lines_in front.0, front.1.now)
