use Rattle.std.proofs.Common.{◌≡◌, ◌+◌, length}
use Rattle.fx_language.specs.Lines.{lines}
use Rattle.fx_language.specs.Parts.{parts_left}
use Rattle.fx_language.specs.Script.{after_texts, nothing}
use Rattle.fx_language.specs.ScriptView.{progress_of}
use Rattle.fx_language.proofs.script.Script.read.Given as goal

-- the result of the lines from here on is the result of all lines
abbrev pub invariant-loop-text : goal.invariant-loop-text
invariant-loop-text l = record {
  left : after_texts l.line (progress_of l.reader) (parts_left l.text-iterator) ≡ after_texts 1 nothing (lines l.bytes);
  count : l.line + length (parts_left l.text-iterator) ≡ 1 + length (lines l.bytes);
}
