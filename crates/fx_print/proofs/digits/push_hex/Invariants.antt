use Rattle.std.proofs.Common.{◌≡◌, ◌++◌, string_bytes}
use Rattle.std.specs.Slice.Iter.{chunks_rest, chunks_size}
use Rattle.hex.specs.Hex.{encode_lower}
use Rattle.fx_print.proofs.digits.push_hex.Given as goal

-- the text so far, and the digits of the bytes that are left, are what is to come
abbrev pub invariant-loop-stretch : goal.invariant-loop-stretch
invariant-loop-stretch l = record {
  goes_on : goal.iterator-loop-stretch.can_next l.stretch-iterator;
  ends : goal.iterator-loop-stretch.is_finite l.stretch-iterator;
  size : chunks_size l.stretch-iterator ≡ 64;
  so_far : string_bytes l.text ++ encode_lower (chunks_rest l.stretch-iterator) ≡ string_bytes l.fn.text ++ encode_lower l.bytes;
}
