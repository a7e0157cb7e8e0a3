-- The ring of a play, and the answer of its submissions.
use Rattle.std.specs.Prelude.{◌≡◌}
use Rattle.fx_script.specs.Words.{ℕ, List, Result, Ok, Err, FileEntry, refused_line, too_many_line}
use Rattle.fx_script.specs.Words.{RingContents, reported, Cut, TooMany}
use Rattle.fx_ring.specs.OpenRings.{OpenRingContents}
use Rattle.fx_ring.specs.declared.report.Report.{Report}
use Rattle.fx_ring.specs.declared.report.SubmitFault.{SubmitFault}
use Rattle.fx_script.specs.Text.{report_text}
use Rattle.fx_script.specs.declared.played_ring.PlayedRing.{PlayedRing}
use Rattle.fx_script.specs.declared.played_ring.PlayedRing.TheVariants.{Closed, Open}

-- the ring, whether its table is open or not
abbrev pub ring_played : PlayedRing OpenRingContents → RingContents
ring_played (Closed ring) = ring
ring_played (Open opened) = opened.ring

-- the text of an answer of a submission, if no allocation failed
abbrev pub IsAnswerText : List FileEntry → Result Report SubmitFault → List ℕ → Type 0
IsAnswerText catalogue (Ok report) text = text ≡ report_text catalogue (reported report)
IsAnswerText catalogue (Err (Cut fault)) text = text ≡ refused_line fault
IsAnswerText catalogue (Err TooMany) text = text ≡ too_many_line
IsAnswerText catalogue (Err _) text = ⊥
