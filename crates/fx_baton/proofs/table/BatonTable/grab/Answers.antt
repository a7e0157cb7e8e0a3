use Rattle.fx_baton.proofs.{◌∙◌, ap, arith, may_exchange}
use Rattle.fx_baton.proofs.table.BatonTable.grab.Goals as goal

pub compare_exchange-requires : goal.compare_exchange-requires
compare_exchange-requires g c =
    let counts = c.args.self.now.counts in let i = c.loop.invariant in let f = c.requires.free in let o = c.requires.one in (
      i.table ∙ c.requires.fits,
      omega arith,
      may_exchange _ _ counts.1 (ap (λ m. m.1) i.me ∙ f.0) (ap (λ m. m.0.loan) i.me ∙ f.1) (ap (λ m. m.0.logs) i.me ∙ o.1),
    )
