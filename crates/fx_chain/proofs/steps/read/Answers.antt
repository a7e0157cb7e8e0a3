use Rattle.fx_chain.proofs.Words.{rules, ◌≡◌, length, pos, to_z, w32, ap, ◌∙◌, inr, arith, to_z_pos, bytes_at}
use Rattle.fx_chain.proofs.ActsInTurn.{so_nothing, looks_and_releases}
use Rattle.fx_chain.proofs.steps.read.Goals as goal

pub returns-then-is_err-clause-read : goal.returns-then-is_err-clause-read
returns-then-is_err-clause-read g c =
    search (rules, so_nothing, (g.met.T.FileTable g.world.𝓛 g.world.𝓜 g.world.𝓡 ((λ s x. x), (λ x. x), (λ x. x), λ x. x)).fronts)

pub returns-in-Ok-clause-read : goal.returns-in-Ok-clause-read
returns-in-Ok-clause-read g c =
    let (f, is, adds) = c.in-Ok.ensures.looked in
    let small = c.read_into-res.ensures.small in
    let res : to_z w32 c.read_into-res.result ≡ pos (length (bytes_at c.args.context.now.catalogue.now c.in-Ok.hold.entry c.args.off c.args.len)) =
    to_z_pos w32 c.read_into-res.result (omega (arith, small)) ∙ ap pos c.read_into-res.ensures.count in
    let got : c.read_into-res.new.into.items ≡ bytes_at c.args.context.now.catalogue.now c.in-Ok.hold.entry c.args.off c.args.len = search rules in
    looks_and_releases adds c.release.ensures.released (λ xs told. inr (inr (f, told, rw (res, got, is.entry))))
