use Rattle.std.proofs.Common.{sym, subst, append_assoc, rules, ◌∙◌}
use Rattle.std.proofs.lemmas.List.{append-nil, nil_from_length}
use Rattle.std.specs.Str.{IsUtf8}
use Rattle.fx_print.proofs.Hexes.{encode_lower-append, encode_lower-is_text, nothing_left, on_ok}
use Rattle.fx_print.proofs.digits.push_hex.Goals as goal

pub unreachable-requires : goal.unreachable-requires
unreachable-requires c =
    let fits = c.encode_to_slice.ensures.fits.1 (search rules) in
    let written = on_ok c.encode_to_slice.result fits c.encode_to_slice.ensures.written in
    c.in_default.ensures.cases.0 (subst IsUtf8 (sym written) (encode_lower-is_text c.in-Some.stretch.now))

pub loop-stretch-preserved : goal.loop-stretch-preserved
loop-stretch-preserved c =
    let i = c.loop-stretch.invariant in
    let steps = c.in-Some.ensures.steps in
    let fits = c.encode_to_slice.ensures.fits.1 (search rules) in
    let digits = c.in-Ok.ensures.cases.0 ∙ on_ok c.encode_to_slice.result fits c.encode_to_slice.ensures.written in
    let more = rw (steps.1.0, encode_lower-append, ← append_assoc) at i.so_far in
    record {
      goes_on = search rules;
      ends = tt;
      size = steps.0 ∙ i.size;
      so_far = rw (c.in_ok-push_str.ensures.bytes, digits) more;
    }

pub returns : goal.returns
returns c = rw (nil_from_length _ c.in-None.ensures.steps.1.0, nothing_left, append-nil) at c.loop-stretch.invariant.so_far
