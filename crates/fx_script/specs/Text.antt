-- The text of a report.
use Rattle.fx_script.specs.Words.{ℕ, List, FileEntry, Reported, submission_text}

abbrev pub report_text : List FileEntry → Reported → List ℕ
report_text catalogue report = submission_text catalogue report.completions report.closes.files
