use Rattle.fx_counted.proofs.Words.{◌≡◌, ◌*◌, ℕ, ap, ◌∙◌, subst, state_of, homes_for, AreFirstHomes}
use Rattle.fx_counted.proofs.Openings.{opening_keeps, opens_with}
use Rattle.fx_counted.proofs.open.share.Goals as goal

pub new-requires : goal.new-requires
new-requires c =
    let k = c.args.key.now in let is = c.requires.plain in let few = c.requires.inside in
    let count : c.homes_for-count.result ≡ homes_for (state_of c.args.plain).size (k.numbers * k.chains) =
    c.homes_for-count.ensures ∙ ap (λ (n : ℕ). homes_for n (k.numbers * k.chains)) c.size.ensures.value in
    let homes = subst (λ (n : ℕ). AreFirstHomes c.args.plain n c.in-Ok-move_out.homes.items) count c.in-Ok-move_out.ensures.ok.homes in
    opening_keeps k _ _ (opens_with k c.as_slice.result.now c.in-Ok-move_out.homes.items (rw is few.0)
    (rw is few.1) c.requires.chains.0 c.requires.passes c.requires.chains.1
    (rw (is, c.as_slice.ensures.value) c.in-Ok.ensures) (rw is homes))

pub put_all-requires : goal.put_all-requires
put_all-requires c = (c.args.plain, c.homes_for-count.result, rw c.in-Err.ensures.err c.in-Ok-move_out.ensures.ok)

pub returns-clause-refused : goal.returns-clause-refused
returns-clause-refused c = c.put_all.ensures c.args.plain c.homes_for-count.result (rw c.in-Err.ensures.err c.in-Ok-move_out.ensures.ok)
