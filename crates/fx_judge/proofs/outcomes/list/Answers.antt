use Rattle.fx_judge.proofs.{◌≡◌, ◌+◌, [], ◌∷◌, ◌++◌, take, ap, sym, ◌∙◌, string_bytes, take_more}
use Rattle.fx_judge.proofs.Found.{joined_more, lengths_more}
use Rattle.fx_judge.proofs.outcomes.list.Goals as goal

pub loop-text-preserved : goal.loop-text-preserved
loop-text-preserved c =
    let xs = c.args.texts.now in
    let i = c.loop-text.text-index in
    let x = c.text-item.result in
    let more : take (i + 1) xs ≡ take i xs ++ x ∷ [] = take_more xs i x c.loop-text-test.true ∙ ap (λ y. take i xs ++ y ∷ []) (sym c.text-item.is) in
    let was = c.loop-text.invariant in
    let bytes_is = c.as_bytes-bytes.ensures.value in
    record {
      bytes = rw (more, joined_more string_bytes (take i xs) x, ← was.bytes, ← bytes_is) c.in_ok-extend_from_slice.ensures.items;
      lengths = rw (more, lengths_more string_bytes (take i xs) x, ← was.lengths, ← bytes_is) c.in_ok-push.ensures.items;
    }
