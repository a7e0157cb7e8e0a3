use Rattle.fx_script.proofs.{◌+◌, ◌≤◌, length, LONGEST_SCRIPT, Kept}
use Rattle.fx_script.proofs.runner.read_all.Given as goal

-- the first bytes that the reader has returned are kept
abbrev pub invariant-reading : goal.invariant-reading
invariant-reading g l = record {
  kept : Kept (LONGEST_SCRIPT + 1) (g.I.Read.remaining l.fn.reader) (g.I.Read.remaining l.reader) l.input.items;
  few : length l.input.items ≤ LONGEST_SCRIPT + 1;
}
