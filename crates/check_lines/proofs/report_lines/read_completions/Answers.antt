use Rattle.check_lines.proofs.{◌≡◌, ◌∙◌, ◌++◌, ℕ, List, ◌≤◌, [], ◌∷◌, length, sym, ap, arith, length-append, map-append, all_completed}
use Rattle.check_lines.proofs.{completion_line, flat_map, length-map, completed_of, next_line, no_next}
use Rattle.check_lines.proofs.report_lines.read_completions.Goals as goal

pub returns-in_default : goal.returns-in_default
returns-in_default c =
    let line = c.as_bytes.ensures.value ∙ c.in_ok-push_completion.ensures
    ∙ ap (λ (t : List ℕ). t ++ completion_line (completed_of c.in_ok-completion.completion)) c.clear.ensures.bytes in
    no_next c.loop.invariant.first (λ y later behind ends fits same.
    let others : List ℕ = flat_map completion_line later ++ behind in
    let is = c.in_ok-completion.ensures.parsed y others fits same in
    c.in_default.ensures.none others (same ∙ ap (λ (t : List ℕ). t ++ others) (ap completion_line is ∙ sym line)))

-- the text may not end before `count` completions
pub loop-preserved : goal.loop-preserved
loop-preserved c =
    let line = c.as_bytes.ensures.value ∙ c.in_ok-push_completion.ensures
    ∙ ap (λ (t : List ℕ). t ++ completion_line (completed_of c.in_ok-completion.completion)) c.clear.ensures.bytes in
    let counted : length c.loop.completions.items ≡ c.loop.counter = c.loop.invariant.counted in
    let more = length-append c.loop.completions.items (c.in_ok-completion.completion ∷ []) in
    record {
      counted = rw c.in_ok-push.ensures.items (omega arith);
      first = rw (c.in_ok-push.ensures.items, map-append completed_of c.loop.completions.items (c.in_ok-completion.completion ∷ []))
          (next_line c.loop.invariant.first c.in_ok-completion.ensures.fits
          (c.in-Some.ensures.rest ∙ ap (λ (t : List ℕ). t ++ c.in-Some.others.now) line)
          (λ behind all same. omega (arith, length-map c.loop.completions.items completed_of, c.loop-test.true)) c.in_ok-completion.ensures.parsed);
    }

pub returns : goal.returns
returns c =
    let known = length-map c.loop.completions.items completed_of in
    let counted : length c.loop.completions.items ≡ c.loop.counter = c.loop.invariant.counted in
    let over : c.args.count ≤ c.loop.counter = c.loop-test.false in
    no_next c.loop.invariant.first (λ y later behind ends fits same.
    let long = length-append (all_completed c.loop.completions.items) (y ∷ later) in omega arith)
