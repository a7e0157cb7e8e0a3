use Rattle.fx_script.proofs.{rules, ◌≡◌, ◌++◌, ◌+◌, ◌-◌, length, take, LONGEST_SCRIPT, one_read, at_end, few_kept}
use Rattle.fx_script.proofs.runner.read_all.Goals as goal

pub returns-then-n-eq0-clause-kept : goal.returns-then-n-eq0-clause-kept
returns-then-n-eq0-clause-kept g c =
    let remaining = g.I.Read.remaining in
    at_end (remaining c.args.reader.now) (remaining c.reading.reader) (remaining c.read.new.self) c.read.new.buf c.reading.invariant.kept
    c.in-Ok.ensures.bytes.0 c.if-n-eq0.true (c.in-Ok.ensures.bytes.1 c.if-n-eq0.true (search rules))

pub reading-preserved : goal.reading-preserved
reading-preserved g c =
    let grown : c.extend_from_slice.new.self.items
    ≡ c.reading.input.items ++ take (LONGEST_SCRIPT + 1 - length c.reading.input.items) (take c.in-Ok.n c.read.new.buf) = search rules in
    record {
      kept = one_read c.in-Ok.n c.read.new.buf c.reading.invariant.kept c.in-Ok.ensures.bytes.0 grown;
      few = few_kept c.reading.input.items (take c.in-Ok.n c.read.new.buf) c.reading.invariant.few grown;
    }
