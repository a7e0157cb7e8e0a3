use Rattle.std.proofs.Common.{ℕ, List, length, ap, arith}
use Rattle.std.specs.Prelude.{◌==◌}
use Rattle.std.proofs.lemmas.Bool.{le-ltb}
use Rattle.std.proofs.lemmas.List.Splits.{length-slice_split}
use Rattle.std.proofs.lemmas.List.Sums.{count_by-le-length}
use Rattle.fx_language.specs.declared.limits.TheConstants.{LONGEST_SCRIPT}
use Rattle.fx_language.proofs.script.Script.read.Goals as goal

-- a script has at most one line more than it has bytes
pub overflow_add-line : goal.overflow_add-line
overflow_add-line c =
    let bytes = c.args.bytes.now in
    let some = count_by-le-length (λ b. b == 10) bytes in
    let taken = ap (λ (l : List (List ℕ)). length l) c.in-Some.ensures.steps in
    let count = c.loop-text.invariant.count in
    omega (arith, length-slice_split (λ b. b == 10) bytes, some, taken, count)

pub of-requires : goal.of-requires
of-requires c =
    let short = le-ltb LONGEST_SCRIPT (length c.args.bytes.now) c.if-bytes-gt-LONGEST_SCRIPT.false in
    (c.args.bytes.now, rw (short, ← c.loop-text.invariant.left, c.in-None.ensures.steps.0))
